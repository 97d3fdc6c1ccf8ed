-- The books of a policy that are for a kind.
use Rattle.std.proofs.Common.{◌≡◌, ◌<◌, ◌+◌, ℕ, suc, add-one, drop-cons, Bool, true, false, List, [], ◌∷◌, ◌++◌, length, drop, map, get_or, sym, ap, ◌∙◌, append_assoc}
use Rattle.std.specs.Borrow.{Bor}
use Rattle.std.specs.List.{flat_map}
use Rattle.std.proofs.lemmas.List.{append-nil}
use Rattle.std.proofs.lemmas.List.Concat.{flat_map-append}
use Rattle.oci_schemas.specs.declared.kind.Kind.{Kind}
use Rattle.oci_rules.specs.Rules as rules
use Rattle.oci_rules.specs.Tables.{rule_of}
use Rattle.oci_rules.specs.declared.rule.Rule.{Rule}
use Rattle.oci_findings.specs.Asked.{is_for}
use Rattle.oci_findings.specs.Checks.{rules_for, rules_if}
use Rattle.oci_findings.specs.declared.asked.Book.{Book}
use Rattle.oci_findings.proofs.Counted.{rules_in}

pub one_for : (old new : List (Bor (List Rule))) (b : Bor (List Rule)) (so : Bool) → so ≡ true → new ≡ old ++ b ∷ []
    → flat_map rules_in new ≡ flat_map rules_in old ++ rules_if so (map rule_of b.now)
one_for old new b so holds is =
    ap (flat_map rules_in) is ∙ flat_map-append rules_in old (b ∷ []) ∙ ap (λ rs. flat_map rules_in old ++ rs) (append-nil (map rule_of b.now))
    ∙ ap (λ s. flat_map rules_in old ++ rules_if s (map rule_of b.now)) (sym holds)

pub one_not_for : (rs book : List rules.Rule) (so : Bool) → so ≡ false → rs ≡ rs ++ rules_if so book
one_not_for rs book so fails = sym (append-nil rs) ∙ ap (λ s. rs ++ rules_if s book) (sym fails)

pub book_next : (kind : Kind) (bs : List Book) (i : ℕ) (d : Book) (old new whole : List rules.Rule) → i < length bs
    → new ≡ old ++ rules_if (is_for (get_or bs i d) kind) (map rule_of (get_or bs i d).rules.now) → old ++ rules_for kind (drop i bs) ≡ whole → new ++ rules_for kind (drop (i + 1) bs) ≡ whole
book_next kind bs i d old new whole within is sofar =
    let cut : drop i bs ≡ get_or bs i d ∷ drop (suc i) bs = drop-cons bs i d within in
    let more = rw cut at sofar in
    rw (is, add-one) (append_assoc old (rules_if (is_for (get_or bs i d) kind) (map rule_of (get_or bs i d).rules.now)) (rules_for kind (drop (suc i) bs)) ∙ more)

-- none behind the last
pub none_left : (kind : Kind) (rs : List rules.Rule) → rs ++ rules_for kind [] ≡ rs
none_left kind rs = append-nil rs
