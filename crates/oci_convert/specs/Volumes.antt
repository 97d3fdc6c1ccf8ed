-- The mounts of an image's volumes (image specification, "Conversion to OCI Runtime Configuration", `Config.Volumes`).
use Rattle.std.specs.Prelude.{ℕ, List, [], ◌∷◌, ◌++◌, ◌≡◌, Bool, true, false, bytes_eq, string_bytes, Option, Some, None, Vec}
use Rattle.std.specs.List.{list_any}
use Rattle.std.specs.declared.alloc.Global.{Global}
use Rattle.oci_runtime_records.specs.Mount.{mount_plain}
use Rattle.oci_runtime_records.specs.declared.mount.Mount.{Mount}

-- the mounts of a list, none where there is no list
abbrev pub mounts_of : Option (Vec Mount Global) → List Mount
mounts_of None = []
mounts_of (Some ms) = ms.items

-- whether a mount is at this path
abbrev pub is_mounted : List Mount → List ℕ → Bool
is_mounted mounts path = list_any (λ m. bytes_eq (string_bytes m.destination) path) mounts

-- a copy of a mount, at another path
pub record IsCopyAt (volume : Mount) (path : List ℕ) (m : Mount) : Type 0 where
  pub is_there : string_bytes m.destination ≡ path
  pub others : mount_plain (record volume { destination = m.destination }) ≡ mount_plain m

-- behind the mounts, a copy of `volume` for each path at which no mount stands before it
pub data MountsVolumes (volume : Mount) : List (List ℕ) → List Mount → List Mount → Type 0 where
  done : (mounts : List Mount) → MountsVolumes volume [] mounts mounts
  kept : (path : List ℕ) (paths : List (List ℕ)) (mounts after : List Mount) → is_mounted mounts path ≡ true → MountsVolumes volume paths mounts after → MountsVolumes volume (path ∷ paths) mounts after
  added : (path : List ℕ) (paths : List (List ℕ)) (mounts after : List Mount) (m : Mount) → is_mounted mounts path ≡ false → IsCopyAt volume path m → MountsVolumes volume paths (mounts ++ m ∷ []) after → MountsVolumes volume (path ∷ paths) mounts after

-- the mounts of volumes, if they are to be mounted
abbrev pub MountsGiven : Option Mount → List (List ℕ) → List Mount → List Mount → Type 0
MountsGiven None paths before after = after ≡ before
MountsGiven (Some volume) paths before after = MountsVolumes volume paths before after
