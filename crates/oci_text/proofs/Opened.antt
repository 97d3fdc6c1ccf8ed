-- What a place in a table tells of the text that stands there.
use Rattle.std.proofs.Common.{◌≡◌, ℕ, zero, suc, List, [], ◌∷◌, Bool, true, false, ◌||◌, bytes_eq, Some, refl, sym, ap, ◌∙◌}
use Rattle.std.specs.List.{slice_get}
use Rattle.std.proofs.lemmas.Slice.Eq.{bytes_eq-Decides}
use Rattle.oci_base.specs.Names.{Name, variant, other, opened, is_listed, is_other, name_text}

or_true : (b : Bool) → (b || true) ≡ true
or_true true = refl
or_true false = refl

listed_at : (table : List (List ℕ)) (i : ℕ) (t : List ℕ) → slice_get table i ≡ Some t → is_listed table t ≡ true
listed_at [] i t e = cc
listed_at (u ∷ us) zero t e = let same : t ≡ u = cc in rw ((bytes_eq-Decides t u).1 same) refl
listed_at (u ∷ us) (suc i) t e = rw (listed_at us i t e) (or_true (bytes_eq t u))

as_variant : (n : Name) → is_other n ≡ false → n ≡ variant (name_text n)
as_variant (variant t) e = refl
as_variant (other t) e = cc

-- the variant whose text stands at a text's place is what the text opens
pub named_at : (table : List (List ℕ)) (i : ℕ) (t : List ℕ) (n : Name) → slice_get table i ≡ Some t → slice_get table i ≡ Some (name_text n) → is_other n ≡ false → n ≡ opened table t
named_at table i t n stands named is =
    let same : name_text n ≡ t = cc in
    as_variant n is ∙ ap variant same ∙ rw (listed_at table i t stands) refl

-- a text that is none of the table opens as itself
pub none_at : (table : List (List ℕ)) (t : List ℕ) → is_listed table t ≡ false → other t ≡ opened table t
none_at table t e = rw e refl
