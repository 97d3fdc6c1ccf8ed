-- What is found of configurations, and of the images that name them.
use Rattle.std.proofs.Common.{◌≡◌, ℕ, ◌<◌, Bool, true, false, Vec, List, [], ◌∷◌, ◌++◌, length, Option, Some, None, Result, Ok, Err, String, string_bytes, inl, inr, refl, sym, ◌∙◌, subst, arith}
use Rattle.std.specs.Prelude.{◌≢◌}
use Rattle.std.specs.declared.alloc.Global.{Global}
use Rattle.serde_json.specs.Data.{Data}
use Rattle.serde_json.specs.View.{view}
use Rattle.oci_json.specs.Engines.{IsNoJson, ReadsAs}
use Rattle.oci_shapes.specs.ImageConfiguration.{image_configuration}
use Rattle.oci_schema.specs.declared.violation.Violation.{Violation}
use Rattle.oci_layout.specs.Documents.{IsValid}
use Rattle.oci_layout.specs.Looks.{Contents}
use Rattle.oci_saved.specs.Facts.{Adds, AddsUnless, HasConfig, IsConfigValue, IsDocument, IsReadAt, IsSoAt, IsUnread}
use Rattle.oci_saved.specs.Files.{OverFiles}
use Rattle.oci_saved.specs.Saved.{config_name, config_of, diff_ids_of, layers_of, AreLayers, IsConfig, IsItem, IsSavedImage}
use Rattle.oci_saved.specs.declared.document.Document.{Document}
use Rattle.oci_saved.specs.declared.document.Unread.{Unread}
use Rattle.oci_saved.specs.declared.document.Unread.TheVariants as unread
use Rattle.oci_saved.specs.declared.fault.ItemFault.TheVariants.{NoItem, Config, Name, Schema}
use Rattle.oci_saved.specs.declared.fault.SavedFault.{SavedFault}
use Rattle.oci_saved.specs.declared.fault.SavedFault.TheVariants.{Item}
use Rattle.oci_saved.proofs.Adds.{nothing_added, one_added, both_added, added_as, over_all, over_map}

-- ---- one reading

-- bytes are read as one value
pub one_value : (bytes : List ℕ) (d e : Data) → ReadsAs bytes d → ReadsAs bytes e → d ≡ e
one_value bytes d e (_, a) (_, b) = cc

pub no_value : (bytes : List ℕ) (d : Data) → IsNoJson bytes → ReadsAs bytes d → ⊥
no_value bytes d none (utf8, is) = let e = none utf8 in cc

-- ---- the value of a configuration

pub no_config : (steady : Bool) (known : Contents) (limit at : ℕ) (item value : Data) (violations : Vec Violation Global) (old new : List SavedFault) → new ≡ old ++ Item at (Schema violations) ∷ []
    → ¬ IsValid image_configuration value
    → OverFiles steady known (λ f. HasConfig limit f item value → Adds (IsSoAt limit f at item) (IsConfigValue f (layers_of item) value) old new)
no_config steady known limit at item value violations old new is wrong =
    over_all steady known (λ f. HasConfig limit f item value → Adds (IsSoAt limit f at item) (IsConfigValue f (layers_of item) value) old new)
    (λ f config. one_added (IsSoAt limit f at item) (IsConfigValue f (layers_of item) value) old new (Item at (Schema violations)) is (refl, (value, config, wrong)) (λ v. wrong v.0))

pub valid_config : (steady : Bool) (known : Contents) (limit at : ℕ) (item value : Data) (old new : List SavedFault) → IsValid image_configuration value
    → OverFiles steady known (λ f. HasConfig limit f item value → Adds (IsSoAt limit f at item) (AreLayers f (layers_of item) (diff_ids_of value)) old new)
    → OverFiles steady known (λ f. HasConfig limit f item value → Adds (IsSoAt limit f at item) (IsConfigValue f (layers_of item) value) old new)
valid_config steady known limit at item value old new valid h =
    over_map steady known (λ f. HasConfig limit f item value → Adds (IsSoAt limit f at item) (AreLayers f (layers_of item) (diff_ids_of value)) old new)
    (λ f. HasConfig limit f item value → Adds (IsSoAt limit f at item) (IsConfigValue f (layers_of item) value) old new)
    (λ f k config. added_as (IsSoAt limit f at item) (AreLayers f (layers_of item) (diff_ids_of value)) (IsConfigValue f (layers_of item) value) old new (λ a. (valid, a)) (λ v. v.1) (k config)) h

-- ---- its name

named : (limit : ℕ) (f : List ℕ → Option (List ℕ)) (at : ℕ) (item : Data) (bytes : List ℕ) (value : Data) (name : String Global) (old new : List SavedFault) → string_bytes name ≡ config_name bytes
    → AddsUnless (config_of item ≡ string_bytes name) (Item at (Name name)) old new → IsDocument limit f (config_of item) bytes value → Adds (IsSoAt limit f at item) (config_of item ≡ config_name bytes) old new
named limit f at item bytes value name old new is h document = go h
  where
    go : AddsUnless (config_of item ≡ string_bytes name) (Item at (Name name)) old new → Adds (IsSoAt limit f at item) (config_of item ≡ config_name bytes) old new
    go (inl (same, e)) = subst (λ l. Adds (IsSoAt limit f at item) (config_of item ≡ config_name bytes) old l) (sym e) (nothing_added (IsSoAt limit f at item) (config_of item ≡ config_name bytes) old (same ∙ is))
    go (inr (other, e)) =
        let wrong : config_of item ≢ config_name bytes = λ k. other (k ∙ sym is) in
        one_added (IsSoAt limit f at item) (config_of item ≡ config_name bytes) old new (Item at (Name name)) e (refl, (bytes, document.there, is, wrong)) wrong

config_parts : (f : List ℕ → Option (List ℕ)) (path : List ℕ) (layers : List Data) (bytes : List ℕ) (value : Data) → ReadsAs bytes value → (path ≡ config_name bytes) × IsConfigValue f layers value → IsConfig f path layers bytes
config_parts f path layers bytes value reads (is, v) = record { named = is; value = value; reads = reads; valid = v.0; saved = v.1 }

config_whole : (f : List ℕ → Option (List ℕ)) (path : List ℕ) (layers : List Data) (bytes : List ℕ) (value : Data) → ReadsAs bytes value → IsConfig f path layers bytes → (path ≡ config_name bytes) × IsConfigValue f layers value
config_whole f path layers bytes value reads c = (c.named, subst (λ v. IsConfigValue f layers v) (one_value bytes c.value value c.reads reads) (c.valid, c.saved))

pub config_judged : (steady : Bool) (known : Contents) (limit at : ℕ) (item : Data) (bytes : List ℕ) (value : Data) (name : String Global) (old mid new : List SavedFault)
    → string_bytes name ≡ config_name bytes → AddsUnless (config_of item ≡ string_bytes name) (Item at (Name name)) old mid
    → OverFiles steady known (λ f. HasConfig limit f item value → Adds (IsSoAt limit f at item) (IsConfigValue f (layers_of item) value) mid new)
    → OverFiles steady known (λ f. IsDocument limit f (config_of item) bytes value → Adds (IsSoAt limit f at item) (IsConfig f (config_of item) (layers_of item) bytes) old new)
config_judged steady known limit at item bytes value name old mid new is first h =
    over_map steady known (λ f. HasConfig limit f item value → Adds (IsSoAt limit f at item) (IsConfigValue f (layers_of item) value) mid new)
    (λ f. IsDocument limit f (config_of item) bytes value → Adds (IsSoAt limit f at item) (IsConfig f (config_of item) (layers_of item) bytes) old new)
    (λ f k document. added_as (IsSoAt limit f at item) ((config_of item ≡ config_name bytes) × IsConfigValue f (layers_of item) value) (IsConfig f (config_of item) (layers_of item) bytes) old new
    (config_parts f (config_of item) (layers_of item) bytes value document.reads) (config_whole f (config_of item) (layers_of item) bytes value document.reads)
    (both_added (IsSoAt limit f at item) (config_of item ≡ config_name bytes) (IsConfigValue f (layers_of item) value) old mid new (named limit f at item bytes value name old mid is first document)
    (k (bytes, document)))) h

-- ---- an image

pub no_item : (steady : Bool) (known : Contents) (limit at : ℕ) (item : Data) (old new : List SavedFault) → new ≡ old ++ Item at NoItem ∷ [] → ¬ IsItem item
    → OverFiles steady known (λ f. Adds (IsSoAt limit f at item) (IsSavedImage limit f item) old new)
no_item steady known limit at item old new is wrong =
    over_all steady known (λ f. Adds (IsSoAt limit f at item) (IsSavedImage limit f item) old new)
    (λ f. one_added (IsSoAt limit f at item) (IsSavedImage limit f item) old new (Item at NoItem) is (refl, wrong) (λ s. wrong s.says))

-- what is not read is no document
pub unread_none : (limit : ℕ) (f : List ℕ → Option (List ℕ)) (path : List ℕ) (why : Unread) → IsUnread limit true f path why → (bytes : List ℕ) (value : Data) → IsDocument limit f path bytes value → ⊥
unread_none limit f path unread.Missing h bytes value d = let t = d.there in cc
unread_none limit f path (unread.Unreadable why) h bytes value d = h refl
unread_none limit f path unread.TooLarge (all, is, more) bytes value d = let t = d.there in let same : all ≡ bytes = cc in let less = subst (λ l. limit < length l) same more in let small = d.small in absurd (omega arith)
unread_none limit f path unread.NoJson (all, is, small, none) bytes value d = let t = d.there in let same : bytes ≡ all = cc in no_value all value none (subst (λ l. ReadsAs l value) same d.reads)

pub config_unread : (steady : Bool) (known : Contents) (limit at : ℕ) (item : Data) (path : List ℕ) (r : Result Document Unread) (why : Unread) (old new : List SavedFault) → path ≡ config_of item
    → new ≡ old ++ Item at (Config why) ∷ [] → IsReadAt limit steady known path r → r ≡ Err why → OverFiles steady known (λ f. Adds (IsSoAt limit f at item) (IsSavedImage limit f item) old new)
config_unread true (Some f) limit at item path r why old new same is read e =
    let told = subst (λ r. IsReadAt limit true (Some f) path r) e read in
    let h = subst (λ p. IsUnread limit true f p why) same told in
    one_added (IsSoAt limit f at item) (IsSavedImage limit f item) old new (Item at (Config why)) is (refl, h)
    (λ s. unread_none limit f (config_of item) why h s.bytes s.config.value (record { there = s.there; small = s.small; reads = s.config.reads }))
config_unread true None limit at item path r why old new same is read e = tt
config_unread false known limit at item path r why old new same is read e = tt

pub image_judged : (steady : Bool) (known : Contents) (limit at : ℕ) (item : Data) (path : List ℕ) (r : Result Document Unread) (d : Document) (old new : List SavedFault) → IsItem item
    → path ≡ config_of item → IsReadAt limit steady known path r → r ≡ Ok d
    → OverFiles steady known (λ f. IsDocument limit f (config_of item) d.bytes.items (view d.value) → Adds (IsSoAt limit f at item) (IsConfig f (config_of item) (layers_of item) d.bytes.items) old new)
    → OverFiles steady known (λ f. Adds (IsSoAt limit f at item) (IsSavedImage limit f item) old new)
image_judged true (Some f) limit at item path r d old new says same read e h =
    let told = subst (λ r. IsReadAt limit true (Some f) path r) e read in
    let document = subst (λ p. IsDocument limit f p d.bytes.items (view d.value)) same told in
    added_as (IsSoAt limit f at item) (IsConfig f (config_of item) (layers_of item) d.bytes.items) (IsSavedImage limit f item) old new
    (λ c. record { says = says; bytes = d.bytes.items; there = document.there; small = document.small; config = c })
    (λ s. let t = s.there in let u = document.there in let one : s.bytes ≡ d.bytes.items = cc in subst (λ l. IsConfig f (config_of item) (layers_of item) l) one s.config) (h document)
image_judged true None limit at item path r d old new says same read e h = tt
image_judged false known limit at item path r d old new says same read e h = tt
