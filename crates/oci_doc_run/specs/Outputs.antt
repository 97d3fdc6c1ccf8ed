-- What each command writes.
use Rattle.std.specs.Prelude.{ℕ, List, [], ◌∷◌, ◌++◌, codes, Option, Some, None, IfSome}
use Rattle.oci_shapes.specs.Descriptor.{descriptor}
use Rattle.oci_descriptor.specs.Descriptor.{descriptor_plain}
use Rattle.oci_descriptor.specs.declared.descriptor.Descriptor.{Descriptor}
use Rattle.oci_json.specs.Engines.{MeansBytes, WritesDocument}
use Rattle.oci_schema.specs.Normalizes.{WritesPretty}
use Rattle.oci_reference.specs.Accepted.{Accepted}
use Rattle.oci_reference.specs.Parts.{Parts, resolved}
use Rattle.oci_reference.specs.Replaced.{pinned}
use Rattle.oci_reference.specs.Whole.{whole}
use Rattle.oci_base.specs.Digest.{IsDigest}
use Rattle.oci_doc_run.specs.Commands.{Asked, norm, pretty, reference, digest, pin}
use Rattle.oci_schemas.specs.Kinds.{shape_of}

-- a word, a space, the value and a line feed
abbrev pub line : List ℕ → List ℕ → List ℕ
line word value = word ++ 32 ∷ (value ++ 10 ∷ [])

-- the line of a value, where there is one
abbrev pub line_if : List ℕ → Option (List ℕ) → List ℕ
line_if word None = []
line_if word (Some value) = line word value

-- the lines on a reference
abbrev pub reference_lines : Parts → List ℕ
reference_lines r =
    line (codes "registry") r.registry
    ++ line (codes "repository") r.repository
    ++ line_if (codes "tag") r.tag
    ++ line_if (codes "digest") r.digest
    ++ line (codes "whole") (whole r)
    ++ line (codes "resolve") (resolved r)

-- the lines on a digest
abbrev pub digest_lines : List ℕ → List ℕ → List ℕ
digest_lines algorithm encoded = line (codes "algorithm") algorithm ++ line (codes "encoded") encoded

-- the line on a reference with the digest of a descriptor
abbrev pub pinned_line : Parts → Descriptor → List ℕ
pinned_line r d = whole (pinned r d.digest) ++ 10 ∷ []

-- the lines on the reference that the text is
abbrev pub WritesReference : List ℕ → (List ℕ → Type 0) → Type 0
WritesReference text Wrote = (parts : Parts) × Accepted text parts × Wrote (reference_lines parts)

-- the lines on the digest that the text is
abbrev pub WritesDigest : List ℕ → (List ℕ → Type 0) → Type 0
WritesDigest text Wrote = (algorithm : List ℕ) × (encoded : List ℕ) × IsDigest text algorithm encoded × Wrote (digest_lines algorithm encoded)

-- the line on the reference that the text is, with the digest of the descriptor that the bytes mean where they are known
abbrev pub WritesPinned : List ℕ → Option (List ℕ) → (List ℕ → Type 0) → Type 0
WritesPinned text input Wrote = (parts : Parts) × (d : Descriptor) × Accepted text parts
    × IfSome input (λ bytes. MeansBytes descriptor bytes (descriptor_plain d)) × Wrote (pinned_line parts d)

-- the command's output is written
abbrev pub Writes : Asked → Option (List ℕ) → (List ℕ → Type 0) → Type 0
Writes (norm kind) input Wrote = WritesDocument (shape_of kind) input Wrote
Writes (pretty kind) input Wrote = WritesPretty (shape_of kind) input Wrote
Writes (reference text) input Wrote = WritesReference text Wrote
Writes (digest text) input Wrote = WritesDigest text Wrote
Writes (pin text) input Wrote = WritesPinned text input Wrote
