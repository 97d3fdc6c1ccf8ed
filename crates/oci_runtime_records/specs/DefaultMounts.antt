-- Which mounts a container has by default (runtime specification, "Configuration", "Mounts"; "Linux Container Configuration", "Default Filesystems").
use Rattle.std.specs.Prelude.{ℕ, List, [], ◌∷◌, map, codes}
use Rattle.oci_model.specs.Plain as plain
use Rattle.oci_model.specs.Plain.{Plain, Slot, document, slots, empty, filled, plains}
use Rattle.oci_runtime_records.specs.declared.defaults.MountRow.{MountRow}

-- options, where there are any
abbrev pub options_slot : List Plain → Slot
options_slot [] = empty
options_slot (p ∷ ps) = filled (plain.list (plains (p ∷ ps)))

-- a mount without mappings
abbrev pub mount_with : List ℕ → List ℕ → List ℕ → List Plain → Plain
mount_with destination typ source options = document (slots (filled (plain.text destination) ∷ filled (plain.text typ) ∷ filled (plain.text source) ∷ options_slot options ∷ empty ∷ empty ∷ []))

abbrev pub new_mount : List ℕ → List ℕ → List ℕ → List (List ℕ) → Plain
new_mount destination typ source options = mount_with destination typ source (map plain.text options)

abbrev pub mount_of_row : MountRow → Plain
mount_of_row row = mount_with row.destination.now row.typ.now row.source.now (map (λ t. plain.text t.now) row.options.now)

-- those of a container that root starts
abbrev pub default_mounts : Plain
default_mounts = plain.list (plains (
    new_mount (codes "/proc") (codes "proc") (codes "proc") []
    ∷ new_mount (codes "/dev") (codes "tmpfs") (codes "tmpfs") (codes "nosuid" ∷ codes "strictatime" ∷ codes "mode=755" ∷ codes "size=65536k" ∷ [])
    ∷ new_mount (codes "/dev/pts") (codes "devpts") (codes "devpts") (codes "nosuid" ∷ codes "noexec" ∷ codes "newinstance" ∷ codes "ptmxmode=0666" ∷ codes "mode=0620" ∷ codes "gid=5" ∷ [])
    ∷ new_mount (codes "/dev/shm") (codes "tmpfs") (codes "shm") (codes "nosuid" ∷ codes "noexec" ∷ codes "nodev" ∷ codes "mode=1777" ∷ codes "size=65536k" ∷ [])
    ∷ new_mount (codes "/dev/mqueue") (codes "mqueue") (codes "mqueue") (codes "nosuid" ∷ codes "noexec" ∷ codes "nodev" ∷ [])
    ∷ new_mount (codes "/sys") (codes "sysfs") (codes "sysfs") (codes "nosuid" ∷ codes "noexec" ∷ codes "nodev" ∷ codes "ro" ∷ [])
    ∷ new_mount (codes "/sys/fs/cgroup") (codes "cgroup") (codes "cgroup") (codes "nosuid" ∷ codes "noexec" ∷ codes "nodev" ∷ codes "relatime" ∷ codes "ro" ∷ [])
    ∷ []))

-- those of a container that another user starts: terminals have no group, and `/sys` is the host's
abbrev pub rootless_mounts : Plain
rootless_mounts = plain.list (plains (
    new_mount (codes "/proc") (codes "proc") (codes "proc") []
    ∷ new_mount (codes "/dev") (codes "tmpfs") (codes "tmpfs") (codes "nosuid" ∷ codes "strictatime" ∷ codes "mode=755" ∷ codes "size=65536k" ∷ [])
    ∷ new_mount (codes "/dev/pts") (codes "devpts") (codes "devpts") (codes "nosuid" ∷ codes "noexec" ∷ codes "newinstance" ∷ codes "ptmxmode=0666" ∷ codes "mode=0620" ∷ [])
    ∷ new_mount (codes "/dev/shm") (codes "tmpfs") (codes "shm") (codes "nosuid" ∷ codes "noexec" ∷ codes "nodev" ∷ codes "mode=1777" ∷ codes "size=65536k" ∷ [])
    ∷ new_mount (codes "/dev/mqueue") (codes "mqueue") (codes "mqueue") (codes "nosuid" ∷ codes "noexec" ∷ codes "nodev" ∷ [])
    ∷ new_mount (codes "/sys") (codes "none") (codes "/sys") (codes "nosuid" ∷ codes "noexec" ∷ codes "nodev" ∷ codes "ro" ∷ codes "rbind" ∷ [])
    ∷ new_mount (codes "/sys/fs/cgroup") (codes "cgroup") (codes "cgroup") (codes "nosuid" ∷ codes "noexec" ∷ codes "nodev" ∷ codes "relatime" ∷ codes "ro" ∷ [])
    ∷ []))
