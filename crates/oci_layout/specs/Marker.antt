-- The file that marks a folder as an image layout (image specification, "Image Layout", "oci-layout file").
use Rattle.std.specs.Prelude.{◌≡◌, ◌≤◌, ⊤, ℕ, List, codes, length, Option, Some, None, option_and_then}
use Rattle.serde_json.specs.Data.{Data}
use Rattle.serde_json.specs.Find.{as_str, get}
use Rattle.oci_json.specs.Engines.{ReadsAs}
use Rattle.oci_shapes.specs.OciLayout.{oci_layout}
use Rattle.oci_layout.specs.Documents.{IsValid}
use Rattle.oci_layout.specs.Looks.{Contents}
use Rattle.oci_layout.specs.declared.top.Top.{Top}
use Rattle.oci_layout.specs.declared.top.Top.TheVariants.{Bytes}

-- the value says version 1.0.0
abbrev pub IsVersionOne : Data → Type 0
IsVersionOne d = option_and_then as_str (get (codes "imageLayoutVersion") d) ≡ Some (codes "1.0.0")

-- the bytes are a marker of this version
pub record IsMarker (bytes : List ℕ) : Type 0 where
  pub value : Data
  pub reads : ReadsAs bytes value
  pub valid : IsValid oci_layout value
  pub version : IsVersionOne value

-- what was read is such a marker
abbrev pub IsMarkerIn : Top → Type 0
IsMarkerIn (Bytes bytes) = IsMarker bytes.items
IsMarkerIn _ = ⊥

-- the layout has one, no larger than the limit, by its files beside `blobs`
pub record HasMarker (limit : ℕ) (tops : List ℕ → Option (List ℕ)) : Type 0 where
  pub bytes : List ℕ
  pub there : tops (codes "oci-layout") ≡ Some bytes
  pub small : length bytes ≤ limit
  pub marker : IsMarker bytes

-- where these are known
abbrev pub IsMarked : ℕ → Contents → Type 0
IsMarked limit None = ⊤
IsMarked limit (Some tops) = HasMarker limit tops
