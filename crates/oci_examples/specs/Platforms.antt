-- The platform that a descriptor is for (image specification, "Image Index", `platform`).
use Rattle.std.specs.Prelude.{◌≡◌, Some}
use Rattle.oci_spec.specs.Arch.{arch_name}
use Rattle.oci_spec.specs.Os.{os_name}
use Rattle.oci_spec.specs.declared.image.Arch.{Arch}
use Rattle.oci_spec.specs.declared.image.Descriptor.{Descriptor}
use Rattle.oci_spec.specs.declared.image.Os.{Os}
use Rattle.oci_spec.specs.declared.image.Platform.{Platform}

-- the descriptor has a platform, of this operating system and architecture
pub record IsFor (d : Descriptor) (os : Os) (architecture : Arch) : Type 0 where
  pub platform : Platform
  pub there : d.platform ≡ Some platform
  pub same_os : os_name platform.os ≡ os_name os
  pub same_architecture : arch_name platform.architecture ≡ arch_name architecture
