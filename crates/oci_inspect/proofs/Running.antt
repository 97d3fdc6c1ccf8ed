-- A platform runs on another exactly if an index of one manifest for it has one that is chosen.
use Rattle.std.specs.Prelude.{◌≡◌, ◌↔◌, ℕ, zero, suc, List, [], ◌∷◌, Bool, Option, Some, None, is_some, IfSome, IsNone, IsTrue, slice_get, refl}
use Rattle.std.specs.Borrow.{Bor}
use Rattle.std.proofs.Common.{subst, sym, ◌∙◌, ap, rules}
use Rattle.oci_descriptor.specs.declared.descriptor.Descriptor.{Descriptor}
use Rattle.oci_descriptor.specs.declared.platform.Platform.{Platform}
use Rattle.oci_select.specs.Chosen.{Chooses, NoneRuns, RunsAt}
use Rattle.oci_select.specs.Fits.{Fits}
use Rattle.oci_select.specs.Normal.{names_of}
use Rattle.oci_select.specs.Runs.{runs_on}
use Rattle.oci_inspect.specs.Platforms.{Runs}

lone_is : (e d : Descriptor) (i : ℕ) → slice_get (e ∷ []) i ≡ Some d → Some e ≡ Some d
lone_is e d zero h = h
lone_is e d (suc i) h = absurd (let none : None ≡ Some d = h in cc)

some_same : (p q : Platform) → Some p ≡ Some q → p ≡ q
some_same p q h = cc

runs_at : (e : Descriptor) (wanted p : Platform) (i place : ℕ) → e.platform ≡ Some p → RunsAt (e ∷ []) wanted i place → Runs wanted p
runs_at e wanted p i place is runs =
    let found = runs.is_for_at.is_for in
    let same : e ≡ runs.is_for_at.manifest = (let h = lone_is e runs.is_for_at.manifest i runs.is_for_at.is_manifest in cc) in
    let one : found.platform ≡ p = some_same found.platform p (sym found.is_platform ∙ (ap (λ d. d.platform) (sym same) ∙ is)) in
    let named : runs.names ≡ names_of p = sym found.is_named ∙ ap names_of one in
    record {
      place = place;
      is_place = subst (λ n. slice_get (runs_on (names_of wanted)) place ≡ Some n) named runs.is_place;
      fits = subst (Fits wanted) one found.fits;
    }

runs_first : (e : Descriptor) (wanted p : Platform) → e.platform ≡ Some p → (r : Runs wanted p) → RunsAt (e ∷ []) wanted zero r.place
runs_first e wanted p is r = record {
  names = names_of p;
  is_place = r.is_place;
  is_for_at = record { manifest = e; is_manifest = refl; is_for = record { platform = p; is_platform = is; is_named = refl; fits = r.fits } };
}

lone_runs : (e : Descriptor) (wanted p : Platform) (o : Option (Bor Descriptor)) → e.platform ≡ Some p
    → IfSome o (λ d. Chooses (e ∷ []) wanted d.now) → (IsNone o → NoneRuns (e ∷ []) wanted) → IsTrue (is_some o) ↔ Runs wanted p
lone_runs e wanted p (Some d) is some none = ((λ _. runs_at e wanted p some.i some.is_chosen.place is some.is_chosen.runs), λ _. search rules)
lone_runs e wanted p None is some none = ((λ t. absurd (search rules)), λ r. absurd (none (search rules) zero r.place (runs_first e wanted p is r)))

pub does_run : (xs : List Descriptor) (e : Descriptor) (wanted p : Platform) (o : Option (Bor Descriptor)) (b : Bool) → xs ≡ e ∷ [] → e.platform ≡ Some p
    → IfSome o (λ d. Chooses xs wanted d.now) → (IsNone o ↔ NoneRuns xs wanted) → b ≡ is_some o → IsTrue b ↔ Runs wanted p
does_run xs e wanted p o b alone is some none same =
    subst (λ t. IsTrue t ↔ Runs wanted p) (sym same)
    (lone_runs e wanted p o is (subst (λ l. IfSome o (λ d. Chooses l wanted d.now)) alone some) (subst (λ l. IsNone o → NoneRuns l wanted) alone none.0))
