-- The manifests of an index by their names (image specification, "Image Layout", "index.json file", and "Pre-Defined Annotation Keys").
use Rattle.std.specs.Prelude.{ℕ, List, Bool, false, codes, bytes_eq, filter, Option, Some, None, option_map, option_and_then, string_bytes}
use Rattle.std.specs.BTreeMap.{get_by_text}
use Rattle.oci_descriptor.specs.declared.descriptor.Descriptor.{Descriptor}

-- the name of a manifest in an index: its annotation `org.opencontainers.image.ref.name`
abbrev pub name_of : Descriptor → Option (List ℕ)
name_of d = option_map string_bytes (option_and_then (λ m. get_by_text m (codes "org.opencontainers.image.ref.name")) d.annotations)

abbrev pub is_name : List ℕ → Option (List ℕ) → Bool
is_name name None = false
is_name name (Some own) = bytes_eq own name

-- it has this name
abbrev pub is_named : List ℕ → Descriptor → Bool
is_named name d = is_name name (name_of d)

-- those that have the name; without a name all
abbrev pub named : Option (List ℕ) → List Descriptor → List Descriptor
named None manifests = manifests
named (Some name) manifests = filter (is_named name) manifests
