-- Maps of free values are equal exactly if their contents are.
use Rattle.std.proofs.Common.{◌≡◌, ℕ, List, [], ◌∷◌, Bool, true, false, ◌&&◌, Option, Some, None, option_map, String, Global, bytes_eq, refl, sym, ap, ◌∙◌, true≢false}
use Rattle.std.specs.Prelude.{◌↔◌}
use Rattle.std.specs.BTreeMap.{BTreeMap}
use Rattle.std.specs.Bool.{one_answer}
use Rattle.std.specs.Cmp.{IsEquivalence}
use Rattle.std.proofs.lemmas.Bool.{and_parts, and_from}
use Rattle.std.proofs.lemmas.Slice.Eq.{bytes_eq-Decides}
use Rattle.serde_json.specs.Data.{Data}
use Rattle.serde_json.specs.declared.value.Value.{Value}
use Rattle.oci_model.specs.Erased.{erased, erased_values}
use Rattle.oci_model.specs.Alike.{is_same}
use Rattle.oci_model.specs.FreeValues.{values_view, free_values_plain, alike, are_alike, free_eq}
use Rattle.oci_model.specs.Plain as plain
use Rattle.oci_model.specs.Plain.{Plain}
use Rattle.oci_model.specs.Same.{Agrees}
use Rattle.oci_model.specs.SameTrees.{same_if_equal}

-- so are their values
same_option : (d e : Option Data) → (alike d e ≡ true) ↔ (option_map erased d ≡ option_map erased e)
same_option None None = (λ k. refl, λ k. refl)
same_option None (Some e) = (λ k. absurd (true≢false (sym k)), λ k. cc)
same_option (Some d) None = (λ k. absurd (true≢false (sym k)), λ k. cc)
same_option (Some d) (Some e) = (λ k. ap Some ((same_if_equal d e).0 k), λ k. (same_if_equal d e).1 (cc))

-- from the values to their content
to_values : (es fs : List (List ℕ × Option Data)) → are_alike es fs ≡ true → erased_values es ≡ erased_values fs
to_values [] [] h = refl
to_values [] (f ∷ fs) h = absurd (true≢false (sym h))
to_values (e ∷ es) [] h = absurd (true≢false (sym h))
to_values (e ∷ es) (f ∷ fs) h =
    let k = and_parts (bytes_eq e.0 f.0 && alike e.1 f.1) (are_alike es fs) h in
    let j = and_parts (bytes_eq e.0 f.0) (alike e.1 f.1) k.0 in
    let n = (bytes_eq-Decides e.0 f.0).0 j.0 in
    let v = (same_option e.1 f.1).0 j.1 in
    let rest = to_values es fs k.1 in
    cc

-- and back
from_values : (es fs : List (List ℕ × Option Data)) → erased_values es ≡ erased_values fs → are_alike es fs ≡ true
from_values [] [] h = refl
from_values [] (f ∷ fs) h = cc
from_values (e ∷ es) [] h = cc
from_values (e ∷ es) (f ∷ fs) h =
    let first : ◌≡◌ {A = List ℕ × Option Data} (e.0, option_map erased e.1) (f.0, option_map erased f.1) = cc in
    let rest : erased_values es ≡ erased_values fs = cc in
    and_from (bytes_eq e.0 f.0 && alike e.1 f.1) (are_alike es fs)
    (and_from (bytes_eq e.0 f.0) (alike e.1 f.1) ((bytes_eq-Decides e.0 f.0).1 (ap (λ p. p.0) first)) ((same_option e.1 f.1).1 (ap (λ p. p.1) first)))
    (from_values es fs rest)

-- maps are equal exactly if their contents are
pub same_free : (v w : BTreeMap (String Global) (Option Value)) → (free_eq v w ≡ true) ↔ (free_values_plain v ≡ free_values_plain w)
same_free v w = (
  (λ h. ap plain.free (to_values (values_view v.entries) (values_view w.entries) h)),
  (λ h. from_values (values_view v.entries) (values_view w.entries) (cc)),
)

-- so is an answer that is that of the definition
pub told : (b : Bool) (v w : BTreeMap (String Global) (Option Value)) → b ≡ free_eq v w → (b ≡ true) ↔ (free_values_plain v ≡ free_values_plain w)
told b v w is = let s = same_free v w in (λ k. s.0 (sym is ∙ k), λ k. is ∙ s.1 k)

-- what tells content from content is an equality
pub agrees_equiv : {T : Type 0} {eq : T → T → Bool} {f : T → Plain} → Agrees eq f → IsEquivalence eq
agrees_equiv {T} {eq} {f} agrees = record {
  refl = λ x. (agrees x x).1 refl;
  symm = λ x y. one_answer _ _ (agrees x y) ((λ e. sym ((agrees y x).0 e)), (λ e. (agrees y x).1 (sym e)));
  congr = λ x y z e. one_answer _ _ (agrees x z) ((λ h. (agrees x y).0 e ∙ (agrees y z).0 h), (λ h. (agrees y z).1 (sym ((agrees x y).0 e) ∙ h)));
}
