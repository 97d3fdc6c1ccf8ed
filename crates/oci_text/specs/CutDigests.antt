-- Digests that are cut at their first colon (image specification, "Content Descriptors", "Digests").
use Rattle.std.specs.Prelude.{ℕ, List}
use Rattle.oci_base.specs.Classes.{until, after, colon}
use Rattle.oci_base.specs.Digest.{IsDigest}

-- what stands before the first colon is the algorithm, and what stands behind it is encoded
abbrev pub IsCutDigest : List ℕ → Type 0
IsCutDigest text = IsDigest text (until colon text) (after colon text)
