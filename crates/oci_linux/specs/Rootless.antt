-- The Linux part of a container that a user without privileges starts (runtime specification, "Linux Container Configuration").
use Rattle.std.specs.Prelude.{ℕ, [], ◌∷◌, pos}
use Rattle.oci_model.specs.Plain as plain
use Rattle.oci_model.specs.Plain.{Plain, document, slots, empty, filled, plains}
use Rattle.oci_linux.specs.Defaults.{default_masked_paths, default_readonly_paths, rootless_namespaces}

-- one mapping: the container's ID 0 is this one of the host, and no other ID is mapped
abbrev pub mapping_of : ℕ → Plain
mapping_of host = plain.list (plains (
    document (slots (filled (plain.whole (pos host)) ∷ filled (plain.whole (pos 0)) ∷ filled (plain.whole (pos 1)) ∷ []))
    ∷ []))

-- the default without resources, with the namespaces of such a container, and one mapping of users and of groups each
abbrev pub rootless_linux : ℕ → ℕ → Plain
rootless_linux uid gid = document (slots (
    -- netDevices
    empty
    -- uidMappings, gidMappings
    ∷ filled (mapping_of uid)
    ∷ filled (mapping_of gid)
    -- sysctl, resources, cgroupsPath
    ∷ empty
    ∷ empty
    ∷ empty
    -- namespaces
    ∷ filled rootless_namespaces
    -- devices, seccomp, rootfsPropagation
    ∷ empty
    ∷ empty
    ∷ empty
    -- maskedPaths, readonlyPaths
    ∷ filled default_masked_paths
    ∷ filled default_readonly_paths
    -- mountLabel, intelRdt, memoryPolicy, personality, timeOffsets
    ∷ empty
    ∷ empty
    ∷ empty
    ∷ empty
    ∷ empty
    ∷ []))
