-- Members that are not listed change nothing.
use Rattle.std.proofs.Common.{◌≡◌, ℕ, List, false, Option, Some, None, refl, sym, subst}
use Rattle.std.specs.Prelude.{◌↔◌}
use Rattle.serde_json.specs.Data.{Data, object, Members, put}
use Rattle.serde_json.specs.Find.{get}
use Rattle.serde_json.proofs.Views.{get_member-put_other}
use Rattle.oci_base.specs.Names.{is_listed}
use Rattle.oci_model.specs.Plain.{Plain, Slots, no_slots, slot}
use Rattle.oci_model.specs.Shape.{rows, Rows, no_rows, row, with_second, names}
use Rattle.oci_model.specs.Means.{get_second, MeansEither, Means, MeansRows}
use Rattle.oci_json.proofs.Written.{not_listed, not_later}

-- nothing new stands under a second name
same_second : (second : Option (List ℕ)) (ts : List (List ℕ)) (k : List ℕ) (d : Data) (ms : Members) → is_listed (with_second second ts) k ≡ false
    → get_second second (object (put k d ms)) ≡ get_second second (object ms)
same_second None ts k d ms e = refl
same_second (Some name) ts k d ms e = get_member-put_other name k d ms (λ same. (not_listed k name ts e).0 (sym same))

-- the listed members mean what they meant
with_more : (rs : Rows) (k : List ℕ) (d : Data) (ms : Members) (xs : Slots) → is_listed (names rs) k ≡ false
    → MeansRows rs (object (put k d ms)) xs ↔ MeansRows rs (object ms) xs
with_more no_rows k d ms no_slots e = (λ h. h, λ h. h)
with_more no_rows k d ms (slot x xs) e = (λ h. h, λ h. h)
with_more (row name second presence s rs) k d ms no_slots e = (λ h. h, λ h. h)
with_more (row name second presence s rs) k d ms (slot x xs) e =
    let n = not_listed k name (with_second second (names rs)) e in
    let rest = with_more rs k d ms xs (not_later k second (names rs) n.1) in
    let found = get_member-put_other name k d ms (λ same. n.0 (sym same)) in
    let also = same_second second (names rs) k d ms n.1 in (
      λ h. (
        subst (λ o. MeansEither presence (Means s) o (get_second second (object ms)) x) found
            (subst (λ o. MeansEither presence (Means s) (get name (object (put k d ms))) o x) also h.0),
        rest.0 h.1,
      ),
      λ h. (
        subst (λ o. MeansEither presence (Means s) o (get_second second (object (put k d ms))) x) (sym found)
            (subst (λ o. MeansEither presence (Means s) (get name (object ms)) o x) (sym also) h.0),
        rest.1 h.1,
      ),
    )

-- so does the object
pub unlisted : (rs : Rows) (k : List ℕ) (d : Data) (ms : Members) (p : Plain) → is_listed (names rs) k ≡ false
    → Means (rows rs) (object (put k d ms)) p ↔ Means (rows rs) (object ms) p
unlisted rs k d ms p e =
    (λ h. (h.0, refl, h.2, (with_more rs k d ms h.0 e).0 h.3), λ h. (h.0, refl, h.2, (with_more rs k d ms h.0 e).1 h.3))
