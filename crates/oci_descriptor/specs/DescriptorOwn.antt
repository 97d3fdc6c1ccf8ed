-- What a descriptor of three members is, and which digests have a SHA-256 part.
use Rattle.std.specs.Prelude.{codes, ℕ, List, Option, Some, None, bytes_eq, if◌then◌else◌}
use Rattle.oci_text.specs.declared.media_type.MediaType.{MediaType}
use Rattle.oci_descriptor.specs.declared.descriptor.Descriptor.{Descriptor}

-- a descriptor of these three members
abbrev pub described : MediaType → ℕ → List ℕ → Descriptor
described media_type size digest = record {
  media_type = media_type;
  digest = digest;
  size = size;
  urls = None;
  annotations = None;
  platform = None;
  artifact_type = None;
  embedded_data = None;
}

-- the encoded part of a digest whose algorithm is `sha256`
abbrev pub sha256_part : List ℕ → List ℕ → Option (List ℕ)
sha256_part algorithm encoded = if bytes_eq algorithm (codes "sha256") then Some encoded else None
