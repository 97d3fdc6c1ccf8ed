-- The first of the parts that a mark joins.
use Rattle.std.proofs.Common.{◌≡◌, ℕ, ◌<◌, ◌&&◌, Bool, true, false, List, ◌∷◌, ◌++◌, length, refl, sym, ap, ◌∙◌, length-append, arith}
use Rattle.std.specs.Prelude.{◌==◌}
use Rattle.std.specs.List.{list_all, slice_split}
use Rattle.oci_base.specs.Classes.{has, until, after}
use Rattle.oci_base.proofs.Marks.{first_cut, until_is, lacks_not_has}
use Rattle.oci_grammars.specs.Decided.{are_joined, part_of}
use Rattle.oci_grammars.specs.declared.parts.Part.{Part}
use Rattle.oci_grammars.proofs.Splits.{split_none, split_at}

-- a text that has the mark, cut at the first
pub split_first : (mark : ℕ) (t : List ℕ) → has mark t ≡ true → slice_split (λ b. b == mark) t ≡ until mark t ∷ slice_split (λ b. b == mark) (after mark t)
split_first mark t h =
    let (x, y, free, e) = first_cut mark t h in
    let k = until_is mark x y free in
    let u : until mark t ≡ x = ap (until mark) e ∙ k.0 in
    let w : after mark t ≡ y = ap (after mark) e ∙ k.1 in
    ap (slice_split (λ b. b == mark)) e ∙ split_at mark x y free ∙ sym (ap (λ z. z ∷ slice_split (λ b. b == mark) (after mark t)) u ∙ ap (λ z. x ∷ slice_split (λ b. b == mark) z) w)

and_assoc : (a b c : Bool) → ((a && b) && c) ≡ (a && (b && c))
and_assoc true b c = refl
and_assoc false b c = refl

and_true : (a : Bool) → (a && true) ≡ a
and_true true = refl
and_true false = refl

pub first_taken : (part : Part) (mark : ℕ) (t : List ℕ) (s : Bool) → has mark t ≡ true → ((s && part_of part (until mark t)) && are_joined part mark (after mark t)) ≡ (s && are_joined part mark t)
first_taken part mark t s h = and_assoc s (part_of part (until mark t)) (are_joined part mark (after mark t)) ∙ ap (λ z. s && list_all (part_of part) z) (sym (split_first mark t h))

pub last_taken : (part : Part) (mark : ℕ) (t : List ℕ) (s : Bool) → has mark t ≡ false → (s && part_of part t) ≡ (s && are_joined part mark t)
last_taken part mark t s h = ap (λ z. s && z) (sym (ap (list_all (part_of part)) (split_none mark t (lacks_not_has mark t h)) ∙ and_true (part_of part t)))

pub shorter : (mark : ℕ) (t : List ℕ) → has mark t ≡ true → length (after mark t) < length t
shorter mark t h =
    let (x, y, free, e) = first_cut mark t h in
    let w : after mark t ≡ y = ap (after mark) e ∙ (until_is mark x y free).1 in
    let size : length t ≡ length (x ++ mark ∷ y) = ap length e in
    let least : length (after mark t) ≡ length y = ap length w in
    omega (arith, size, least, length-append x (mark ∷ y))
