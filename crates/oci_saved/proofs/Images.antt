-- What is found of manifest.json.
use Rattle.std.proofs.Common.{◌≡◌, ℕ, ◌+◌, ◌<◌, ◌≤◌, Bool, true, false, List, [], ◌∷◌, ◌++◌, length, map, Option, Some, None, Result, Ok, Err, refl, sym, ap, ◌∙◌, subst, arith}
use Rattle.std.specs.Prelude.{slice_get, ◌↔◌, unwrap_or}
use Rattle.std.specs.List.{All}
use borrow.Author.Count.{below_more}
use Rattle.serde_json.specs.Data.{Data, Items, no_items}
use Rattle.serde_json.specs.Find.{as_array}
use Rattle.serde_json.specs.View.{view, items_view}
use Rattle.serde_json.specs.declared.value.Value.{Value}
use Rattle.oci_json.specs.Engines.{ReadsAs}
use Rattle.oci_layout.proofs.Items.{list_of-items_view}
use Rattle.oci_layout.specs.Claims.{list_of}
use Rattle.oci_layout.specs.Looks.{Contents}
use Rattle.oci_saved.specs.Facts.{items_of, manifest_path, Adds, AreImages, IsDocument, IsManifestOf, IsReadAt, IsSo, IsSoAt, IsSoOf}
use Rattle.oci_saved.specs.Files.{OverFiles}
use Rattle.oci_saved.specs.Saved.{IsSaved, IsSavedImage}
use Rattle.oci_saved.specs.declared.document.Document.{Document}
use Rattle.oci_saved.specs.declared.document.Unread.{Unread}
use Rattle.oci_saved.specs.declared.fault.SavedFault.{SavedFault}
use Rattle.oci_saved.specs.declared.fault.SavedFault.TheVariants.{Manifest, NoArray, Item}
use Rattle.oci_saved.proofs.Adds.{nothing_added, one_added, both_added, added_as, added_so, all_each, each_all, inside, over_all, over_both, over_map}
use Rattle.oci_saved.proofs.Configs.{one_value, unread_none}

-- ---- the items, one after the other

abbrev pub IsImageAt : ℕ → (List ℕ → Option (List ℕ)) → List Data → ℕ → Type 0
IsImageAt limit f ds k = (d : Data) → slice_get ds k ≡ Some d → IsSavedImage limit f d

-- so is each before a place
abbrev pub AreImagesTo : ℕ → (List ℕ → Option (List ℕ)) → List Data → ℕ → Type 0
AreImagesTo limit f ds n = (k : ℕ) → k < n → IsImageAt limit f ds k

so_of : (limit : ℕ) (f : List ℕ → Option (List ℕ)) (ds : List Data) (n : ℕ) (d : Data) → slice_get ds n ≡ Some d → (x : SavedFault) → IsSoAt limit f n d x → IsSoOf limit f ds x
so_of limit f ds n d is (Item place fault) (at, so) = (d, ap (slice_get ds) at ∙ is, so)
so_of limit f ds n d is (Manifest why) h = h
so_of limit f ds n d is NoArray h = h

pub images_init : (steady : Bool) (known : Contents) (limit : ℕ) (ds : List Data) (xs : List SavedFault) → OverFiles steady known (λ f. Adds (IsSoOf limit f ds) (AreImagesTo limit f ds 0) xs xs)
images_init steady known limit ds xs =
    over_all steady known (λ f. Adds (IsSoOf limit f ds) (AreImagesTo limit f ds 0) xs xs) (λ f. nothing_added (IsSoOf limit f ds) (AreImagesTo limit f ds 0) xs (λ k lt. absurd (omega arith)))

image_more : (limit : ℕ) (f : List ℕ → Option (List ℕ)) (ds : List Data) (n : ℕ) (d : Data) (old mid new : List SavedFault) → slice_get ds n ≡ Some d
    → Adds (IsSoOf limit f ds) (AreImagesTo limit f ds n) old mid → Adds (IsSoAt limit f n d) (IsSavedImage limit f d) mid new → Adds (IsSoOf limit f ds) (AreImagesTo limit f ds (n + 1)) old new
image_more limit f ds n d old mid new is before one =
    added_as (IsSoOf limit f ds) (AreImagesTo limit f ds n × IsSavedImage limit f d) (AreImagesTo limit f ds (n + 1)) old new there back
    (both_added (IsSoOf limit f ds) (AreImagesTo limit f ds n) (IsSavedImage limit f d) old mid new before
    (added_so (IsSoAt limit f n d) (IsSoOf limit f ds) (IsSavedImage limit f d) mid new (so_of limit f ds n d is) one))
  where
    here : IsSavedImage limit f d → IsImageAt limit f ds n
    here h e k = let same : d ≡ e = cc in subst (IsSavedImage limit f) same h

    there : AreImagesTo limit f ds n × IsSavedImage limit f d → AreImagesTo limit f ds (n + 1)
    there h = below_more (IsImageAt limit f ds) n h.0 (here h.1)

    back : AreImagesTo limit f ds (n + 1) → AreImagesTo limit f ds n × IsSavedImage limit f d
    back to = ((λ k lt. let less : k < n + 1 = omega arith in to k less), (let less : n < n + 1 = omega arith in to n less d is))

pub images_more : (steady : Bool) (known : Contents) (limit : ℕ) (ds : List Data) (n : ℕ) (d : Data) (old mid new : List SavedFault) → slice_get ds n ≡ Some d
    → OverFiles steady known (λ f. Adds (IsSoOf limit f ds) (AreImagesTo limit f ds n) old mid) → OverFiles steady known (λ f. Adds (IsSoAt limit f n d) (IsSavedImage limit f d) mid new)
    → OverFiles steady known (λ f. Adds (IsSoOf limit f ds) (AreImagesTo limit f ds (n + 1)) old new)
images_more steady known limit ds n d old mid new is before one =
    over_both steady known (λ f. Adds (IsSoOf limit f ds) (AreImagesTo limit f ds n) old mid) (λ f. Adds (IsSoAt limit f n d) (IsSavedImage limit f d) mid new)
    (λ f. Adds (IsSoOf limit f ds) (AreImagesTo limit f ds (n + 1)) old new) (λ f b o. image_more limit f ds n d old mid new is b o) before one

pub images_end : (steady : Bool) (known : Contents) (limit : ℕ) (ds : List Data) (n : ℕ) (old new : List SavedFault) → length ds ≤ n
    → OverFiles steady known (λ f. Adds (IsSoOf limit f ds) (AreImagesTo limit f ds n) old new) → OverFiles steady known (λ f. Adds (IsSoOf limit f ds) (All (IsSavedImage limit f) ds) old new)
images_end steady known limit ds n old new past before =
    over_map steady known (λ f. Adds (IsSoOf limit f ds) (AreImagesTo limit f ds n) old new) (λ f. Adds (IsSoOf limit f ds) (All (IsSavedImage limit f) ds) old new)
    (λ f a. added_as (IsSoOf limit f ds) (AreImagesTo limit f ds n) (All (IsSavedImage limit f) ds) old new
    (λ to. each_all (IsSavedImage limit f) ds (λ k d e. let lt : k < length ds = inside ds k d e in let less : k < n = omega (arith, lt, past) in to k less d e))
    (λ all k lt d e. all_each (IsSavedImage limit f) ds all k d e) a) before

-- ---- the value of manifest.json

so_item : (limit : ℕ) (f : List ℕ → Option (List ℕ)) (value : Data) → IsManifestOf limit f value → (x : SavedFault) → IsSoOf limit f (items_of value) x → IsSo limit f x
so_item limit f value (bytes, document) (Item place fault) (d, at, so) = (d, record { bytes = bytes; value = value; document = document; item_at = at }, so)
so_item limit f value manifest (Manifest why) h = absurd h
so_item limit f value manifest NoArray h = absurd h

pub manifest_items : (steady : Bool) (known : Contents) (limit : ℕ) (value : Data) (vs ws : List Value) (old new : List SavedFault) → Some (items_view vs) ≡ as_array value → ws ≡ vs
    → OverFiles steady known (λ f. Adds (IsSoOf limit f (map view ws)) (All (IsSavedImage limit f) (map view ws)) old new)
    → OverFiles steady known (λ f. IsManifestOf limit f value → Adds (IsSo limit f) (AreImages limit f (as_array value)) old new)
manifest_items steady known limit value vs ws old new there same h =
    over_map steady known (λ f. Adds (IsSoOf limit f (map view ws)) (All (IsSavedImage limit f) (map view ws)) old new)
    (λ f. IsManifestOf limit f value → Adds (IsSo limit f) (AreImages limit f (as_array value)) old new) (λ f a manifest. step f a manifest) h
  where
    items : map view ws ≡ list_of (items_view vs)
    items = ap (λ (l : List Value). map view l) same ∙ sym (list_of-items_view vs)

    step : (f : List ℕ → Option (List ℕ)) → Adds (IsSoOf limit f (map view ws)) (All (IsSavedImage limit f) (map view ws)) old new → IsManifestOf limit f value
        → Adds (IsSo limit f) (AreImages limit f (as_array value)) old new
    step f a manifest =
        let told = subst (λ (ds : List Data). Adds (IsSoOf limit f ds) (All (IsSavedImage limit f) ds) old new) items a in
        let at : list_of (items_view vs) ≡ items_of value = ap (λ (i : Option Items). list_of (unwrap_or i no_items)) there in
        subst (λ (i : Option Items). Adds (IsSo limit f) (AreImages limit f i) old new) there
        (added_so (IsSoOf limit f (list_of (items_view vs))) (IsSo limit f) (All (IsSavedImage limit f) (list_of (items_view vs))) old new
        (λ x so. so_item limit f value manifest x (subst (λ (ds : List Data). IsSoOf limit f ds x) at so)) told)

pub no_array : (steady : Bool) (known : Contents) (limit : ℕ) (value : Data) (old new : List SavedFault) → new ≡ old ++ NoArray ∷ [] → None ≡ as_array value
    → OverFiles steady known (λ f. IsManifestOf limit f value → Adds (IsSo limit f) (AreImages limit f (as_array value)) old new)
no_array steady known limit value old new is none =
    over_all steady known (λ f. IsManifestOf limit f value → Adds (IsSo limit f) (AreImages limit f (as_array value)) old new)
    (λ f manifest. one_added (IsSo limit f) (AreImages limit f (as_array value)) old new NoArray is (manifest.0, value, manifest.1, sym none)
    (λ h. subst (λ (i : Option Items). AreImages limit f i) (sym none) h))

-- ---- manifest.json

pub no_manifest : (steady : Bool) (known : Contents) (limit : ℕ) (r : Result Document Unread) (why : Unread) (old new : List SavedFault) → new ≡ old ++ Manifest why ∷ []
    → IsReadAt limit steady known manifest_path r → r ≡ Err why → OverFiles steady known (λ f. Adds (IsSo limit f) (IsSaved limit f) old new)
no_manifest true (Some f) limit r why old new is read e =
    let h = subst (λ r. IsReadAt limit true (Some f) manifest_path r) e read in
    one_added (IsSo limit f) (IsSaved limit f) old new (Manifest why) is h
    (λ s. unread_none limit f manifest_path why h s.bytes s.manifest.value (record { there = s.there; small = s.small; reads = s.manifest.reads }))
no_manifest true None limit r why old new is read e = tt
no_manifest false known limit r why old new is read e = tt

images_there : (limit : ℕ) (f : List ℕ → Option (List ℕ)) (bytes : List ℕ) (value : Data) → IsDocument limit f manifest_path bytes value → AreImages limit f (as_array value) → IsSaved limit f
images_there limit f bytes value d h = go (as_array value) refl h
  where
    go : (o : Option Items) → as_array value ≡ o → AreImages limit f o → IsSaved limit f
    go None e k = absurd k
    go (Some items) e k = record { bytes = bytes; there = d.there; small = d.small; manifest = record { value = value; reads = d.reads; items = items; array = e; each = k } }

images_back : (limit : ℕ) (f : List ℕ → Option (List ℕ)) (bytes : List ℕ) (value : Data) → IsDocument limit f manifest_path bytes value → IsSaved limit f → AreImages limit f (as_array value)
images_back limit f bytes value d s =
    let t = s.there in
    let u = d.there in
    let same : s.bytes ≡ bytes = cc in
    let m = s.manifest in
    let one : m.value ≡ value = one_value bytes m.value value (subst (λ (l : List ℕ). ReadsAs l m.value) same m.reads) d.reads in
    subst (λ (i : Option Items). AreImages limit f i) (sym m.array ∙ ap as_array one) m.each

pub manifest_judged : (steady : Bool) (known : Contents) (limit : ℕ) (r : Result Document Unread) (d : Document) (old new : List SavedFault) → IsReadAt limit steady known manifest_path r → r ≡ Ok d
    → OverFiles steady known (λ f. IsManifestOf limit f (view d.value) → Adds (IsSo limit f) (AreImages limit f (as_array (view d.value))) old new)
    → OverFiles steady known (λ f. Adds (IsSo limit f) (IsSaved limit f) old new)
manifest_judged true (Some f) limit r d old new read e h =
    let document = subst (λ r. IsReadAt limit true (Some f) manifest_path r) e read in
    added_as (IsSo limit f) (AreImages limit f (as_array (view d.value))) (IsSaved limit f) old new (images_there limit f d.bytes.items (view d.value) document)
    (images_back limit f d.bytes.items (view d.value) document) (h (d.bytes.items, document))
manifest_judged true None limit r d old new read e h = tt
manifest_judged false known limit r d old new read e h = tt

-- ---- all that is listed

pub all_listed : (steady : Bool) (known : Contents) (limit : ℕ) (old new : List SavedFault) → old ≡ [] → OverFiles steady known (λ f. Adds (IsSo limit f) (IsSaved limit f) old new)
    → OverFiles steady known (λ f. (new ≡ []) ↔ IsSaved limit f)
all_listed steady known limit old new empty h =
    over_map steady known (λ f. Adds (IsSo limit f) (IsSaved limit f) old new) (λ f. (new ≡ []) ↔ IsSaved limit f)
    (λ f a. let is : new ≡ a.more = a.behind ∙ ap (λ (l : List SavedFault). l ++ a.more) empty in ((λ e. a.none.0 (sym is ∙ e)), (λ s. is ∙ a.none.1 s))) h

pub all_true : (steady : Bool) (known : Contents) (limit : ℕ) (old new : List SavedFault) → old ≡ [] → OverFiles steady known (λ f. Adds (IsSo limit f) (IsSaved limit f) old new)
    → OverFiles steady known (λ f. All (IsSo limit f) new)
all_true steady known limit old new empty h =
    over_map steady known (λ f. Adds (IsSo limit f) (IsSaved limit f) old new) (λ f. All (IsSo limit f) new)
    (λ f a. let is : new ≡ a.more = a.behind ∙ ap (λ (l : List SavedFault). l ++ a.more) empty in subst (λ (l : List SavedFault). All (IsSo limit f) l) (sym is) a.so) h
