-- The manifest that is chosen, as a walk over the platforms and one over the manifests find it.
use Rattle.std.proofs.Common.{◌≡◌, ℕ, ◌<◌, ◌≤◌, List, length, get_or, map, Some, sym, ap, ◌∙◌, subst, arith}
use Rattle.std.specs.List.{slice_get}
use Rattle.std.specs.Option.{option_map}
use Rattle.std.proofs.lemmas.List.{length-map}
use Rattle.std.proofs.lemmas.Option.{slice_get-map, slice_get-get_or, slice_get_within}
use Rattle.oci_descriptor.specs.declared.descriptor.Descriptor.{Descriptor}
use Rattle.oci_descriptor.specs.declared.platform.Platform.{Platform}
use Rattle.oci_select.specs.declared.normal.PlatformNames.{PlatformNames}
use Rattle.oci_select.specs.Chosen.{IsFor, IsForAt, RunsAt, IsChosen, Chooses, NoneRuns}
use Rattle.oci_select.specs.Normal.{Names, names_of}
use Rattle.oci_select.specs.Runs.{runs_on}
use Rattle.oci_select.specs.Told.{told}

module _ (manifests : List Descriptor) (wanted : Platform) where
  -- a manifest at a place is the one there
  pub differs_at : (names : Names) (i : ℕ) (m : Descriptor) → i < length manifests → m ≡ get_or manifests i m → ¬ IsFor wanted names m → ¬ IsForAt manifests wanted names i
  differs_at names i m lt is other h =
      let there : slice_get manifests i ≡ Some m = slice_get-get_or manifests i m lt ∙ ap Some (sym is) in
      let same : h.manifest ≡ m = cc (there, h.is_manifest) in
      other (subst (IsFor wanted names) same h.is_for)

  pub none_at : (names : Names) (i : ℕ) → length manifests ≤ i → ((j : ℕ) → j < i → ¬ IsForAt manifests wanted names j) → (j : ℕ) → ¬ IsForAt manifests wanted names j
  none_at names i far none j h = none j (omega (arith, slice_get_within manifests j h.manifest h.is_manifest)) h

  -- two that are chosen are one
  pub same_chosen : (i j : ℕ) → IsChosen manifests wanted i → IsChosen manifests wanted j → j ≡ i
  same_chosen i j h k =
      let same : h.place ≡ k.place = omega (arith, h.best j k.place k.runs, k.best i h.place h.runs) in
      let before : ¬ (j < i) = λ lt. h.first j lt (subst (λ p. RunsAt manifests wanted j p) (sym same) k.runs) in
      let behind : ¬ (i < j) = λ lt. k.first i lt (subst (λ p. RunsAt manifests wanted i p) same h.runs) in
      omega (arith, before, behind)

  pub same_choice : (i : ℕ) (m e : Descriptor) → IsChosen manifests wanted i → m ≡ get_or manifests i m → ((j : ℕ) → IsChosen manifests wanted j → j ≡ i) → Chooses manifests wanted e → e ≡ m
  same_choice i m e chosen is alone h =
      let at = chosen.runs.is_for_at in
      let lt : i < length manifests = slice_get_within manifests i at.manifest at.is_manifest in
      let there : slice_get manifests i ≡ Some m = slice_get-get_or manifests i m lt ∙ ap Some (sym is) in
      let same : h.i ≡ i = alone h.i h.is_chosen in
      let found : slice_get manifests i ≡ Some e = subst (λ n. slice_get manifests n ≡ Some e) same h.is_manifest in
      cc (there, found)

  pub some_runs : (i : ℕ) → IsChosen manifests wanted i → ¬ NoneRuns manifests wanted
  some_runs i h none = none i h.place h.runs

  module _ (platforms : List PlatformNames) (are : map told platforms ≡ runs_on (names_of wanted)) where
    -- the names of the platform at a place
    place_at : (k : ℕ) (d : PlatformNames) → k < length platforms → slice_get (runs_on (names_of wanted)) k ≡ Some (told (get_or platforms k d))
    place_at k d lt = ap (λ list. slice_get list k) (sym are) ∙ slice_get-map told platforms k ∙ ap (option_map told) (slice_get-get_or platforms k d lt)

    there : (k : ℕ) (d : PlatformNames) (i : ℕ) → k < length platforms → RunsAt manifests wanted i k → IsForAt manifests wanted (told (get_or platforms k d)) i
    there k d i lt r =
        let same : r.names ≡ told (get_or platforms k d) = cc (place_at k d lt, r.is_place) in
        subst (λ names. IsForAt manifests wanted names i) same r.is_for_at

    pub passes : (k : ℕ) (d : PlatformNames) → k < length platforms → ((j : ℕ) → ¬ IsForAt manifests wanted (told (get_or platforms k d)) j) → (i : ℕ) → ¬ RunsAt manifests wanted i k
    passes k d lt none i r = none i (there k d i lt r)

    pub ends : (k : ℕ) → length platforms ≤ k → ((place : ℕ) → place < k → (i : ℕ) → ¬ RunsAt manifests wanted i place) → NoneRuns manifests wanted
    ends k far none i place r =
        none place (omega (arith, slice_get_within (runs_on (names_of wanted)) place r.names r.is_place, ap length are, length-map platforms told)) i r

    pub finds : (k : ℕ) (d : PlatformNames) (i : ℕ) → k < length platforms → ((place : ℕ) → place < k → (j : ℕ) → ¬ RunsAt manifests wanted j place)
        → IsForAt manifests wanted (told (get_or platforms k d)) i → ((j : ℕ) → j < i → ¬ IsForAt manifests wanted (told (get_or platforms k d)) j) → IsChosen manifests wanted i
    finds k d i lt none here first = record {
      place = k;
      runs = record { names = told (get_or platforms k d); is_place = place_at k d lt; is_for_at = here };
      best = λ j other r. (let no : ¬ (other < k) = λ below. none other below j r in omega (arith, no));
      first = λ j before r. first j before (there k d j lt r);
    }
