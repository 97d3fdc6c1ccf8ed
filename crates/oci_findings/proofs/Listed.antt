-- What was listed of a value, and what is listed behind it.
use Rattle.std.proofs.Common.{◌≡◌, ℕ, List, [], ◌∷◌, ◌++◌, sym, ap, ◌∙◌}
use Rattle.std.specs.Prelude.{string_bytes, decimal}
use Rattle.std.proofs.lemmas.List.{append_assoc, append-nil}
use Rattle.std.proofs.lemmas.List.Elements.{All-nil, All-cons, All-append, All-weaker}
use Rattle.oci_base.specs.Classes.{slash}
use Rattle.oci_schema.specs.Places.{escaped, under_name, under_index}
use Rattle.oci_findings.specs.declared.left_out.LeftOut.{LeftOut}
use Rattle.oci_findings.specs.LeftOut.{AddsUnder, IsUnder}

pub none_added : (at : List ℕ) (xs : List LeftOut) → AddsUnder at xs xs
none_added at xs = ([], sym (append-nil xs), All-nil (IsUnder at))

pub one_added : (at : List ℕ) (old new : List LeftOut) (l : LeftOut) → new ≡ old ++ l ∷ [] → string_bytes l.pointer ≡ at → AddsUnder at old new
one_added at old new l is there = (l ∷ [], is, All-cons (IsUnder at) l [] ([], there ∙ sym (append-nil at)) (All-nil (IsUnder at)))

pub both_added : (at : List ℕ) (old mid new : List LeftOut) → AddsUnder at old mid → AddsUnder at mid new → AddsUnder at old new
both_added at old mid new (a, first, all) (b, next, others) = (a ++ b, next ∙ ap (λ q. q ++ b) first ∙ append_assoc old a b, All-append (IsUnder at) a b all others)

under_more : (above step : List ℕ) (l : LeftOut) → IsUnder (above ++ step) l → IsUnder above l
under_more above step l (below, there) = (step ++ below, there ∙ append_assoc above step below)

-- what is below a step from a place is below the place
below_added : (at step : List ℕ) (old new : List LeftOut) → AddsUnder (at ++ step) old new → AddsUnder at old new
below_added at step old new (more, made, all) = (more, made, All-weaker (IsUnder (at ++ step)) (IsUnder at) (λ l h. under_more at step l h) more all)

-- what is listed of one member more, or of one item
pub member_added : (at name : List ℕ) (old mid new : List LeftOut) → AddsUnder at old mid → AddsUnder (under_name at name) mid new → AddsUnder at old new
member_added at name old mid new before next = both_added at old mid new before (below_added at (slash ∷ escaped name) mid new next)

pub item_added : (at : List ℕ) (i : ℕ) (old mid new : List LeftOut) → AddsUnder at old mid → AddsUnder (under_index at i) mid new → AddsUnder at old new
item_added at i old mid new before next = both_added at old mid new before (below_added at (slash ∷ decimal i) mid new next)
