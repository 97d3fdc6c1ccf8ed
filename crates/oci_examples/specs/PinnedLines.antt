-- The line that is printed: a reference pinned to a descriptor for a platform (image specification, "Content Descriptors").
use Rattle.std.specs.Prelude.{◌≡◌, ℕ, List}
use Rattle.oci_spec.specs.Accepted.{Accepted}
use Rattle.oci_spec.specs.Parts.{Parts}
use Rattle.oci_spec.specs.Replaced.{pinned}
use Rattle.oci_spec.specs.Whole.{whole}
use Rattle.oci_spec.specs.declared.image.Arch.{Arch}
use Rattle.oci_spec.specs.declared.image.Descriptor.{Descriptor}
use Rattle.oci_spec.specs.declared.image.Os.{Os}
use Rattle.oci_examples.specs.Platforms.{IsFor}

-- the line is the reference that the text is, by the digest of a descriptor for the platform
pub record IsPinned (text line : List ℕ) (os : Os) (architecture : Arch) : Type 0 where
  pub parts : Parts
  pub descriptor : Descriptor
  pub read : Accepted text parts
  pub for_it : IsFor descriptor os architecture
  pub written : line ≡ whole (pinned parts descriptor.digest)
