-- What holds inside each digest (image specification, "Content Descriptors", "Digests").
use Rattle.std.specs.Prelude.{◌≡◌, length, string_bytes}
use Rattle.oci_text.specs.declared.digest.Digest.TheInside.{Inside}
use Rattle.oci_base.specs.Classes.{until, colon}
use Rattle.oci_base.specs.Names.{opened}
use Rattle.oci_text.specs.Algorithms.{algorithms, algorithm_name}
use Rattle.oci_text.specs.CutDigests.{IsCutDigest}

-- the text is a digest, with its algorithm before the place `split`
pub record IsSound (d : Inside) : Type 0 where
  pub is_digest : IsCutDigest (string_bytes d.text)
  pub named : algorithm_name d.algorithm ≡ opened algorithms (until colon (string_bytes d.text))
  pub split_at : d.split ≡ length (until colon (string_bytes d.text))
