-- What is found of an archive that `docker save` wrote, and what each finding says.
use Rattle.std.specs.Prelude.{◌≡◌, ◌≢◌, ⊤, ℕ, ◌≤◌, List, [], ◌∷◌, ◌++◌, ◌⊎◌, length, codes, slice_get, Bool, true, Option, Some, None, Result, Ok, Err, unwrap_or, string_bytes, ◌↔◌}
use Rattle.std.specs.List.{All}
use Rattle.serde_json.specs.Data.{Data, Items, no_items}
use Rattle.serde_json.specs.Find.{as_array}
use Rattle.serde_json.specs.View.{view}
use Rattle.oci_json.specs.Engines.{IsNoJson, ReadsAs}
use Rattle.oci_shapes.specs.ImageConfiguration.{image_configuration}
use Rattle.oci_layout.specs.Claims.{list_of}
use Rattle.oci_layout.specs.Documents.{IsValid}
use Rattle.oci_layout.specs.Looks.{Contents}
use Rattle.oci_layout.specs.Sound.{IsLarger}
use Rattle.oci_saved.specs.Files.{IsJudged}
use Rattle.oci_saved.specs.Saved.{AreLayers, IsItem, IsLayer, IsSavedImage, config_name, config_of, diff_ids_of, layers_of, text_of}
use Rattle.oci_saved.specs.declared.document.Document.{Document}
use Rattle.oci_saved.specs.declared.document.Unread.{Unread}
use Rattle.oci_saved.specs.declared.document.Unread.TheVariants.{Missing, Unreadable, TooLarge, NoJson}
use Rattle.oci_saved.specs.declared.fault.ItemFault.{ItemFault}
use Rattle.oci_saved.specs.declared.fault.ItemFault.TheVariants.{NoItem, Config, Name, Schema, Count, Layer}
use Rattle.oci_saved.specs.declared.fault.SavedFault.{SavedFault}
use Rattle.oci_saved.specs.declared.fault.SavedFault.TheVariants.{Manifest, NoArray, Item}
use Rattle.oci_saved.specs.declared.files.Judged.{Judged}

-- ---- documents

-- why there is no document at a path
abbrev pub IsUnread : ℕ → Bool → (List ℕ → Option (List ℕ)) → List ℕ → Unread → Type 0
IsUnread limit steady files path Missing = files path ≡ None
IsUnread limit steady files path (Unreadable why) = steady ≡ true → ⊥
IsUnread limit steady files path TooLarge = IsLarger limit (files path)
IsUnread limit steady files path NoJson = (bytes : List ℕ) × (files path ≡ Some bytes) × (length bytes ≤ limit) × IsNoJson bytes

-- the bytes of the file at a path, and the value in them
pub record IsDocument (limit : ℕ) (files : List ℕ → Option (List ℕ)) (path bytes : List ℕ) (value : Data) : Type 0 where
  pub there : files path ≡ Some bytes
  pub small : length bytes ≤ limit
  pub reads : ReadsAs bytes value

-- the document at a path, or why there is none
abbrev pub IsReadAt : ℕ → Bool → Contents → List ℕ → Result Document Unread → Type 0
IsReadAt limit steady None path read = ⊤
IsReadAt limit steady (Some files) path (Ok d) = IsDocument limit files path d.bytes.items (view d.value)
IsReadAt limit steady (Some files) path (Err why) = IsUnread limit steady files path why

-- the same of the bytes alone
abbrev pub IsReadIn : List ℕ → Result Document Unread → Type 0
IsReadIn bytes (Ok d) = (d.bytes.items ≡ bytes) × ReadsAs bytes (view d.value)
IsReadIn bytes (Err NoJson) = IsNoJson bytes
IsReadIn bytes (Err _) = ⊥

-- ---- what each finding says

-- the layer at a place is not there, or has not the DiffID at that place
pub record IsWrongLayer (files : List ℕ → Option (List ℕ)) (layers ids : List Data) (place : ℕ) (found : Judged) : Type 0 where
  pub layer : Data
  pub id : Data
  pub layer_at : slice_get layers place ≡ Some layer
  pub id_at : slice_get ids place ≡ Some id
  pub judged : IsJudged true (Some files) (text_of layer) (text_of id) found
  pub wrong : ¬ IsLayer files layer id

-- the configuration that an item names has this value
abbrev pub HasConfig : ℕ → (List ℕ → Option (List ℕ)) → Data → Data → Type 0
HasConfig limit files item value = (bytes : List ℕ) × IsDocument limit files (config_of item) bytes value

abbrev pub IsItemSo : ℕ → (List ℕ → Option (List ℕ)) → Data → ItemFault → Type 0
IsItemSo limit files item NoItem = ¬ IsItem item
IsItemSo limit files item (Config why) = IsUnread limit true files (config_of item) why
IsItemSo limit files item (Name name) =
    (bytes : List ℕ) × (files (config_of item) ≡ Some bytes) × (string_bytes name ≡ config_name bytes) × (config_of item ≢ config_name bytes)
IsItemSo limit files item (Schema violations) = (value : Data) × HasConfig limit files item value × ¬ IsValid image_configuration value
IsItemSo limit files item (Count layers ids) =
    (value : Data) × HasConfig limit files item value × (layers ≡ length (layers_of item)) × (ids ≡ length (diff_ids_of value)) × (layers ≢ ids)
IsItemSo limit files item (Layer place found) = (value : Data) × HasConfig limit files item value × IsWrongLayer files (layers_of item) (diff_ids_of value) place found

abbrev pub manifest_path : List ℕ
manifest_path = codes "manifest.json"

-- the items of an array
abbrev pub items_of : Data → List Data
items_of value = list_of (unwrap_or (as_array value) no_items)

-- the item at a place of manifest.json
pub record IsItemAt (limit : ℕ) (files : List ℕ → Option (List ℕ)) (place : ℕ) (item : Data) : Type 0 where
  pub bytes : List ℕ
  pub value : Data
  pub document : IsDocument limit files manifest_path bytes value
  pub item_at : slice_get (items_of value) place ≡ Some item

abbrev pub IsSo : ℕ → (List ℕ → Option (List ℕ)) → SavedFault → Type 0
IsSo limit files (Manifest why) = IsUnread limit true files manifest_path why
IsSo limit files NoArray = (bytes : List ℕ) × (value : Data) × IsDocument limit files manifest_path bytes value × (as_array value ≡ None)
IsSo limit files (Item place fault) = (item : Data) × IsItemAt limit files place item × IsItemSo limit files item fault

-- the same of a finding on the item at a place
abbrev pub IsSoAt : ℕ → (List ℕ → Option (List ℕ)) → ℕ → Data → SavedFault → Type 0
IsSoAt limit files place item (Item at fault) = (at ≡ place) × IsItemSo limit files item fault
IsSoAt limit files place item _ = ⊥

-- the same of one of these items
abbrev pub IsSoOf : ℕ → (List ℕ → Option (List ℕ)) → List Data → SavedFault → Type 0
IsSoOf limit files items (Item place fault) = (item : Data) × (slice_get items place ≡ Some item) × IsItemSo limit files item fault
IsSoOf limit files items _ = ⊥

-- ---- the parts of what is asked

-- the value of manifest.json
abbrev pub IsManifestOf : ℕ → (List ℕ → Option (List ℕ)) → Data → Type 0
IsManifestOf limit files value = (bytes : List ℕ) × IsDocument limit files manifest_path bytes value

-- there is an array, of which each item is an image
abbrev pub AreImages : ℕ → (List ℕ → Option (List ℕ)) → Option Items → Type 0
AreImages limit files None = ⊥
AreImages limit files (Some items) = All (IsSavedImage limit files) (list_of items)

-- the value is that of a configuration with these layers
abbrev pub IsConfigValue : (List ℕ → Option (List ℕ)) → List Data → Data → Type 0
IsConfigValue files layers value = IsValid image_configuration value × AreLayers files layers (diff_ids_of value)

-- the layer has this DiffID, or this was found
abbrev pub IsLayerOr : (List ℕ → Option (List ℕ)) → Data → Data → Option Judged → Type 0
IsLayerOr files layer id None = IsLayer files layer id
IsLayerOr files layer id (Some found) = IsJudged true (Some files) (text_of layer) (text_of id) found × ¬ IsLayer files layer id

-- ---- what is listed

-- what was found of the layer at a place, if it is wrong
abbrev pub told_layer : ℕ → ℕ → Option Judged → List SavedFault
told_layer at place None = []
told_layer at place (Some found) = Item at (Layer place found) ∷ []

-- one more is listed, unless P holds
abbrev pub AddsUnless : Type 0 → SavedFault → List SavedFault → List SavedFault → Type 0
AddsUnless P fault old new = (P × (new ≡ old)) ⊎ ((¬ P) × (new ≡ old ++ fault ∷ []))

-- behind what was listed, what says Q is listed, and none exactly if P holds
pub record Adds {X : Type 0} (Q : X → Type 0) (P : Type 0) (old new : List X) : Type 0 where
  pub more : List X
  pub behind : new ≡ old ++ more
  pub none : (more ≡ []) ↔ P
  pub so : All Q more
