-- Which mounts the builder of `Mount` rejects (runtime specification, "Configuration", "Mounts", `uidMappings`: with them `gidMappings` have to be there).
use Rattle.std.specs.Prelude.{ℕ, List, [], ◌∷◌, ◌&&◌, ◌||◌, Bool, true, false, not, Option, Some, None, codes, Vec, if◌then◌else◌}
use Rattle.std.specs.declared.alloc.Global.{Global}
use Rattle.oci_linux.specs.declared.linux_id_mapping.LinuxIdMapping.{LinuxIdMapping}
use Rattle.oci_runtime_records.specs.declared.mount.MountBuilder.{MountBuilder}

abbrev pub is_filled : List LinuxIdMapping → Bool
is_filled [] = false
is_filled (x ∷ xs) = true

-- whether there are mappings
abbrev pub has_items : Option (Vec LinuxIdMapping Global) → Bool
has_items None = false
has_items (Some v) = is_filled v.items

-- there are mappings of the one kind, and none of the other
abbrev pub is_one_sided : MountBuilder → Bool
is_one_sided b = (has_items b.uid_mappings && not (has_items b.gid_mappings)) || (not (has_items b.uid_mappings) && has_items b.gid_mappings)

-- why there is no mount, if there is none
abbrev pub mount_refusal : MountBuilder → Option (List ℕ)
mount_refusal b = if is_one_sided b then Some (codes "Mount.uidMappings and Mount.gidMappings must be specified together") else None
