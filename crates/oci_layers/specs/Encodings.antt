-- How layers are encoded (image specification, "Image Layer Filesystem Changeset", "+gzip Media Types", "+zstd Media Types" and "Non-Distributable Layers";
-- Docker's "Image Manifest Version 2, Schema 2").
use Rattle.std.specs.Prelude.{◌≡◌, ℕ, List, [], ◌∷◌, codes, Bool, true, false, if◌then◌else◌, Option, Some, None}
use Rattle.std.specs.Str.{str_eq_ignore_ascii_case}
use Rattle.gzip.specs.Gzip.{IsGzip}
use Rattle.tar_folder.specs.Compressions.{format_of}
use Rattle.tar_folder.specs.declared.compression.Compression.{Compression}
use Rattle.tar_folder.specs.declared.compression.Compression.TheVariants as format
use Rattle.oci_layers.specs.declared.encoding.Encoding.{Encoding}
use Rattle.oci_layers.specs.declared.encoding.Encoding.TheVariants.{Plain, Gzip, Zstd}
use Rattle.oci_layers.specs.declared.encoding.LayerType.{LayerType}

-- two texts are one media type: its names are compared without regard to case (RFC 6838, section 4.2)
unfoldable pub is_same_type : List ℕ → List ℕ → Bool
is_same_type type other = str_eq_ignore_ascii_case type other

-- the media types of layers, each with the encoding of its layers
abbrev pub layer_types : List (List ℕ × Encoding)
layer_types =
    (codes "application/vnd.oci.image.layer.v1.tar", Plain)
    ∷ (codes "application/vnd.oci.image.layer.v1.tar+gzip", Gzip)
    ∷ (codes "application/vnd.oci.image.layer.v1.tar+zstd", Zstd)
    ∷ (codes "application/vnd.oci.image.layer.nondistributable.v1.tar", Plain)
    ∷ (codes "application/vnd.oci.image.layer.nondistributable.v1.tar+gzip", Gzip)
    ∷ (codes "application/vnd.oci.image.layer.nondistributable.v1.tar+zstd", Zstd)
    ∷ (codes "application/vnd.docker.image.rootfs.diff.tar", Plain)
    ∷ (codes "application/vnd.docker.image.rootfs.diff.tar.gzip", Gzip)
    ∷ (codes "application/vnd.docker.image.rootfs.diff.tar.zstd", Zstd)
    ∷ (codes "application/vnd.docker.image.rootfs.foreign.diff.tar.gzip", Gzip)
    ∷ []

-- a row of the table in code
abbrev pub row_of : LayerType → List ℕ × Encoding
row_of t = (t.media_type.now, t.encoding)

-- the encoding that the row of a media type has
abbrev pub encoding_among : List (List ℕ × Encoding) → List ℕ → Option Encoding
encoding_among [] type = None
encoding_among (row ∷ rows) type = if is_same_type type row.0 then Some row.1 else encoding_among rows type

-- how a layer of this media type is encoded, if it is one of layers
abbrev pub encoding_of : List ℕ → Option Encoding
encoding_of type = encoding_among layer_types type

-- how a layer is encoded that begins as data in this format, or as none that is compressed
abbrev pub encoding_by : Option Compression → Option Encoding
encoding_by None = Some Plain
encoding_by (Some format.Gzip) = Some Gzip
encoding_by (Some format.Zstandard) = Some Zstd
encoding_by (Some format.Bzip2) = None
encoding_by (Some format.Xz) = None

-- how a layer is encoded that begins so, which at most six bytes tell
abbrev pub encoding_at_front : List ℕ → Option Encoding
encoding_at_front front = encoding_by (format_of front)

-- it is one of those that are decoded
abbrev pub is_decoded : Option Encoding → Bool
is_decoded None = false
is_decoded (Some Plain) = true
is_decoded (Some Gzip) = true
is_decoded (Some Zstd) = false

-- The bytes of a layer denote this archive. What those in Zstandard's format denote is not defined here.
abbrev pub IsUncompressed : Encoding → List ℕ → List ℕ → Type 0
IsUncompressed Plain bytes text = text ≡ bytes
IsUncompressed Gzip bytes text = IsGzip bytes text
IsUncompressed Zstd bytes text = ⊥
