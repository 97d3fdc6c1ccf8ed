-- What is found of layers.
use Rattle.std.proofs.Common.{◌≡◌, ℕ, suc, ◌+◌, ◌<◌, ◌≤◌, Bool, true, false, List, [], ◌∷◌, ◌++◌, length, map, get_or, Option, Some, None, option_map, inl, inr, refl, sym, ap, ◌∙◌, subst, true≢false, append-nil, arith}
use Rattle.std.specs.Prelude.{min, slice_get}
use Rattle.std.proofs.lemmas.Option.{slice_get-map, slice_get_read}
use borrow.Author.Count.{below_more}
use Rattle.oci_content.proofs.Verdicts.{exact}
use Rattle.oci_content.specs.Content.{IsDigestOf}
use Rattle.oci_content.specs.declared.verdict.Verdict.{Verdict}
use Rattle.oci_content.specs.declared.verdict.Verdict.TheVariants as verdict
use Rattle.oci_layout.specs.Looks.{Contents}
use Rattle.serde_json.specs.Data.{Data}
use Rattle.serde_json.specs.View.{view}
use Rattle.serde_json.specs.declared.value.Value.{Value}
use Rattle.oci_saved.specs.Facts.{told_layer, Adds, AddsUnless, HasConfig, IsLayerOr, IsSoAt}
use Rattle.oci_saved.specs.Files.{has_digest, IsJudged, OverFiles}
use Rattle.oci_saved.specs.Saved.{diff_ids_of, layers_of, text_of, AreLayers, IsLayer}
use Rattle.oci_saved.specs.declared.fault.ItemFault.TheVariants.{Count, Layer}
use Rattle.oci_saved.specs.declared.fault.SavedFault.{SavedFault}
use Rattle.oci_saved.specs.declared.fault.SavedFault.TheVariants.{Item}
use Rattle.oci_saved.specs.declared.files.Judged.{Judged}
use Rattle.oci_saved.specs.declared.files.Judged.TheVariants as judged
use Rattle.oci_saved.proofs.Adds.{inside, nothing_added, one_added, both_added, added_as, over_all, over_map, over_both}

-- ---- one layer

-- what was found of a layer that is right
right_layer : (f : List ℕ → Option (List ℕ)) (layer id : Data) (j : Judged) → IsJudged true (Some f) (text_of layer) (text_of id) j → has_digest j ≡ true → IsLayer f layer id
right_layer f layer id judged.Missing h e = absurd cc
right_layer f layer id (judged.Unreadable why) h e = absurd cc
right_layer f layer id (judged.Content verdict.Same) (bytes, there, told) e = record { bytes = bytes; there = there; same = told.1 }
right_layer f layer id (judged.Content (verdict.Shorter n)) h e = absurd cc
right_layer f layer id (judged.Content verdict.Longer) h e = absurd cc
right_layer f layer id (judged.Content (verdict.OtherDigest sum)) h e = absurd cc
right_layer f layer id (judged.Content verdict.Unjudged) h e = absurd cc

digest_by : (v : Verdict) → v ≡ verdict.Same → has_digest (judged.Content v) ≡ true
digest_by v e = ap (λ v. has_digest (judged.Content v)) e

wrong_layer : (f : List ℕ → Option (List ℕ)) (layer id : Data) (j : Judged) → IsJudged true (Some f) (text_of layer) (text_of id) j → has_digest j ≡ false → ¬ IsLayer f layer id
wrong_layer f layer id judged.Missing h e k = let t = k.there in absurd cc
wrong_layer f layer id (judged.Unreadable why) h e k = true≢false h
wrong_layer f layer id (judged.Content v) (bytes, there, told) e k =
    let t = k.there in
    let same : k.bytes ≡ bytes = cc in
    let is = (exact (text_of id) (length bytes) bytes v told).1 (refl, subst (λ b. IsDigestOf (text_of id) b) same k.same) in
    true≢false (sym (digest_by v is) ∙ e)

pub layer_right : (steady : Bool) (known : Contents) (layer id : Data) (path digest : List ℕ) (j : Judged) → path ≡ text_of layer → digest ≡ text_of id → IsJudged steady known path digest j
    → has_digest j ≡ true → OverFiles steady known (λ f. IsLayerOr f layer id None)
layer_right true (Some f) layer id path digest j p d h e =
    right_layer f layer id j (subst (λ p. IsJudged true (Some f) p (text_of id) j) p (subst (λ d. IsJudged true (Some f) path d j) d h)) e
layer_right true None layer id path digest j p d h e = tt
layer_right false known layer id path digest j p d h e = tt

pub layer_wrong : (steady : Bool) (known : Contents) (layer id : Data) (path digest : List ℕ) (j : Judged) → path ≡ text_of layer → digest ≡ text_of id → IsJudged steady known path digest j
    → has_digest j ≡ false → OverFiles steady known (λ f. IsLayerOr f layer id (Some j))
layer_wrong true (Some f) layer id path digest j p d h e =
    let is = subst (λ p. IsJudged true (Some f) p (text_of id) j) p (subst (λ d. IsJudged true (Some f) path d j) d h) in
    (is, wrong_layer f layer id j is e)
layer_wrong true None layer id path digest j p d h e = tt
layer_wrong false known layer id path digest j p d h e = tt

-- ---- all layers

-- the layer at a place has the DiffID there
abbrev pub IsLayerAt : (List ℕ → Option (List ℕ)) → List Data → List Data → ℕ → Type 0
IsLayerAt f layers ids k = (layer id : Data) → slice_get layers k ≡ Some layer → slice_get ids k ≡ Some id → IsLayer f layer id

-- as many of both, and so does each before a place
abbrev pub AreLayersTo : (List ℕ → Option (List ℕ)) → List Data → List Data → ℕ → Type 0
AreLayersTo f layers ids n = (length layers ≡ length ids) × ((k : ℕ) → k < n → IsLayerAt f layers ids k)

pub counted : (limit : ℕ) (f : List ℕ → Option (List ℕ)) (at : ℕ) (item value : Data) (n m : ℕ) (old new : List SavedFault) → n ≡ length (layers_of item) → m ≡ length (diff_ids_of value)
    → AddsUnless (n ≡ m) (Item at (Count n m)) old new → HasConfig limit f item value → Adds (IsSoAt limit f at item) (AreLayersTo f (layers_of item) (diff_ids_of value) 0) old new
counted limit f at item value n m old new a b h config = go h
  where
    go : AddsUnless (n ≡ m) (Item at (Count n m)) old new → Adds (IsSoAt limit f at item) (AreLayersTo f (layers_of item) (diff_ids_of value) 0) old new
    go (inl (same, is)) =
        subst (λ l. Adds (IsSoAt limit f at item) (AreLayersTo f (layers_of item) (diff_ids_of value) 0) old l) (sym is)
        (nothing_added (IsSoAt limit f at item) (AreLayersTo f (layers_of item) (diff_ids_of value) 0) old (sym a ∙ same ∙ b, (λ k lt. absurd (omega arith))))
    go (inr (other, is)) =
        one_added (IsSoAt limit f at item) (AreLayersTo f (layers_of item) (diff_ids_of value) 0) old new (Item at (Count n m)) is (refl, (value, config, a, b, other)) (λ l. other (a ∙ l.0 ∙ sym b))

one_layer : (limit : ℕ) (f : List ℕ → Option (List ℕ)) (at n : ℕ) (item value layer id : Data) (wrong : Option Judged) (mid new : List SavedFault) → slice_get (layers_of item) n ≡ Some layer
    → slice_get (diff_ids_of value) n ≡ Some id → IsLayerOr f layer id wrong → new ≡ mid ++ told_layer at n wrong → HasConfig limit f item value → Adds (IsSoAt limit f at item) (IsLayer f layer id) mid new
one_layer limit f at n item value layer id None mid new hl hd right is config =
    subst (λ l. Adds (IsSoAt limit f at item) (IsLayer f layer id) mid l) (sym (is ∙ append-nil mid)) (nothing_added (IsSoAt limit f at item) (IsLayer f layer id) mid right)
one_layer limit f at n item value layer id (Some j) mid new hl hd (is_judged, wrong) is config =
    one_added (IsSoAt limit f at item) (IsLayer f layer id) mid new (Item at (Layer n j)) is
    (refl, (value, config, record { layer = layer; id = id; layer_at = hl; id_at = hd; judged = is_judged; wrong = wrong })) wrong

pub layer_more : (limit : ℕ) (f : List ℕ → Option (List ℕ)) (at n : ℕ) (item value layer id : Data) (wrong : Option Judged) (old mid new : List SavedFault) → slice_get (layers_of item) n ≡ Some layer
    → slice_get (diff_ids_of value) n ≡ Some id → IsLayerOr f layer id wrong → new ≡ mid ++ told_layer at n wrong → HasConfig limit f item value
    → Adds (IsSoAt limit f at item) (AreLayersTo f (layers_of item) (diff_ids_of value) n) old mid → Adds (IsSoAt limit f at item) (AreLayersTo f (layers_of item) (diff_ids_of value) (n + 1)) old new
layer_more limit f at n item value layer id wrong old mid new hl hd is_or is config before =
    added_as (IsSoAt limit f at item) (AreLayersTo f layers ids n × IsLayer f layer id) (AreLayersTo f layers ids (n + 1)) old new there back
    (both_added (IsSoAt limit f at item) (AreLayersTo f layers ids n) (IsLayer f layer id) old mid new before (one_layer limit f at n item value layer id wrong mid new hl hd is_or is config))
  where
    layers : List Data
    layers = layers_of item

    ids : List Data
    ids = diff_ids_of value

    here : IsLayer f layer id → IsLayerAt f (layers_of item) (diff_ids_of value) n
    here h l d el ed = let a : layer ≡ l = cc in let b : id ≡ d = cc in subst (λ l. IsLayer f l d) a (subst (λ d. IsLayer f layer d) b h)

    there : AreLayersTo f (layers_of item) (diff_ids_of value) n × IsLayer f layer id → AreLayersTo f (layers_of item) (diff_ids_of value) (n + 1)
    there (to, h) = (to.0, below_more (IsLayerAt f (layers_of item) (diff_ids_of value)) n to.1 (here h))

    back : AreLayersTo f (layers_of item) (diff_ids_of value) (n + 1) → AreLayersTo f (layers_of item) (diff_ids_of value) n × IsLayer f layer id
    back to = ((to.0, (λ k lt. let less : k < n + 1 = omega arith in to.1 k less)), (let less : n < n + 1 = omega arith in to.1 n less layer id hl hd))

pub layers_end : (limit : ℕ) (f : List ℕ → Option (List ℕ)) (at n : ℕ) (item value : Data) (old new : List SavedFault) → min (length (layers_of item)) (length (diff_ids_of value)) ≤ n
    → Adds (IsSoAt limit f at item) (AreLayersTo f (layers_of item) (diff_ids_of value) n) old new → Adds (IsSoAt limit f at item) (AreLayers f (layers_of item) (diff_ids_of value)) old new
layers_end limit f at n item value old new past a =
    added_as (IsSoAt limit f at item) (AreLayersTo f (layers_of item) (diff_ids_of value) n) (AreLayers f (layers_of item) (diff_ids_of value)) old new there back a
  where
    below : (k : ℕ) (layer id : Data) → slice_get (layers_of item) k ≡ Some layer → slice_get (diff_ids_of value) k ≡ Some id → k < n
    below k layer id el ed =
        let lt : k < length (layers_of item) = inside (layers_of item) k layer el in
        let less : k < length (diff_ids_of value) = inside (diff_ids_of value) k id ed in
        omega (arith, lt, less, past)

    there : AreLayersTo f (layers_of item) (diff_ids_of value) n → AreLayers f (layers_of item) (diff_ids_of value)
    there to = record { count = to.0; each = λ k layer id el ed. to.1 k (below k layer id el ed) layer id el ed }

    back : AreLayers f (layers_of item) (diff_ids_of value) → AreLayersTo f (layers_of item) (diff_ids_of value) n
    back all = (all.count, (λ k lt layer id el ed. all.each k layer id el ed))

-- ---- the values at places

-- the value at a place of an array
pub seen_at : (vs : List Value) (ds : List Data) (k : ℕ) (x : Value) → map view vs ≡ ds → k < length vs → x ≡ get_or vs k x → slice_get ds k ≡ Some (view x)
seen_at vs ds k x same lt is = subst (λ (l : List Data). slice_get l k ≡ Some (view x)) same (slice_get-map view vs k ∙ ap (option_map view) (slice_get_read vs (length vs) k x refl lt is))

view_length : (vs : List Value) → length vs ≡ length (map view vs)
view_length [] = refl
view_length (v ∷ vs) = ap suc (view_length vs)

pub seen_length : (vs : List Value) (ds : List Data) → map view vs ≡ ds → length vs ≡ length ds
seen_length vs ds same = view_length vs ∙ ap (λ (l : List Data). length l) same

-- ---- the loop

pub all_counted : (steady : Bool) (known : Contents) (limit at : ℕ) (item value : Data) (n m : ℕ) (old new : List SavedFault) → n ≡ length (layers_of item) → m ≡ length (diff_ids_of value)
    → AddsUnless (n ≡ m) (Item at (Count n m)) old new
    → OverFiles steady known (λ f. HasConfig limit f item value → Adds (IsSoAt limit f at item) (AreLayersTo f (layers_of item) (diff_ids_of value) 0) old new)
all_counted steady known limit at item value n m old new a b h =
    over_all steady known (λ f. HasConfig limit f item value → Adds (IsSoAt limit f at item) (AreLayersTo f (layers_of item) (diff_ids_of value) 0) old new)
    (λ f config. counted limit f at item value n m old new a b h config)

pub all_more : (steady : Bool) (known : Contents) (limit at n : ℕ) (item value layer id : Data) (wrong : Option Judged) (old mid new : List SavedFault) → slice_get (layers_of item) n ≡ Some layer
    → slice_get (diff_ids_of value) n ≡ Some id → new ≡ mid ++ told_layer at n wrong → OverFiles steady known (λ f. IsLayerOr f layer id wrong)
    → OverFiles steady known (λ f. HasConfig limit f item value → Adds (IsSoAt limit f at item) (AreLayersTo f (layers_of item) (diff_ids_of value) n) old mid)
    → OverFiles steady known (λ f. HasConfig limit f item value → Adds (IsSoAt limit f at item) (AreLayersTo f (layers_of item) (diff_ids_of value) (n + 1)) old new)
all_more steady known limit at n item value layer id wrong old mid new hl hd is here before =
    over_both steady known (λ f. IsLayerOr f layer id wrong) (λ f. HasConfig limit f item value → Adds (IsSoAt limit f at item) (AreLayersTo f (layers_of item) (diff_ids_of value) n) old mid)
    (λ f. HasConfig limit f item value → Adds (IsSoAt limit f at item) (AreLayersTo f (layers_of item) (diff_ids_of value) (n + 1)) old new)
    (λ f l b config. layer_more limit f at n item value layer id wrong old mid new hl hd l is config (b config)) here before

pub all_end : (steady : Bool) (known : Contents) (limit at n a b : ℕ) (item value : Data) (old new : List SavedFault) → a ≡ length (layers_of item) → b ≡ length (diff_ids_of value) → min a b ≤ n
    → OverFiles steady known (λ f. HasConfig limit f item value → Adds (IsSoAt limit f at item) (AreLayersTo f (layers_of item) (diff_ids_of value) n) old new)
    → OverFiles steady known (λ f. HasConfig limit f item value → Adds (IsSoAt limit f at item) (AreLayers f (layers_of item) (diff_ids_of value)) old new)
all_end steady known limit at n a b item value old new ea eb past before =
    over_map steady known (λ f. HasConfig limit f item value → Adds (IsSoAt limit f at item) (AreLayersTo f (layers_of item) (diff_ids_of value) n) old new)
    (λ f. HasConfig limit f item value → Adds (IsSoAt limit f at item) (AreLayers f (layers_of item) (diff_ids_of value)) old new)
    (λ f h config. layers_end limit f at n item value old new (let here : min (length (layers_of item)) (length (diff_ids_of value)) ≤ n = subst (λ a. min a (length (diff_ids_of value)) ≤ n) ea (subst (λ b. min a b ≤ n) eb past) in here) (h config)) before
