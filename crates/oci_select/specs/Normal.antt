-- Platforms by their normalized names: one name for each operating system, architecture and variant that has several.
use Rattle.std.specs.Prelude.{ℕ, List, [], ◌∷◌, Option, Some, None, codes, bytes_eq, unwrap_or, if◌then◌else◌, String, string_bytes}
use Rattle.std.specs.declared.alloc.Global.{Global}
use Rattle.std.specs.Str.{str_to_ascii_lowercase}
use Rattle.oci_base.specs.Names.{name_text}
use Rattle.oci_text.specs.Arch.{arch_name}
use Rattle.oci_text.specs.Os.{os_name}
use Rattle.oci_descriptor.specs.declared.platform.Platform.{Platform}

-- a platform by its names; the variant is empty where there is none
pub record Names : Type 0 where
  pub os : List ℕ
  pub architecture : List ℕ
  pub variant : List ℕ

-- other names, each with the name that it means
unfoldable pub os_names : List (List ℕ × List ℕ)
os_names = (codes "macos", codes "darwin") ∷ []

unfoldable pub architecture_names : List (List ℕ × List ℕ)
architecture_names = (codes "i386", codes "386")
    ∷ (codes "x86_64", codes "amd64")
    ∷ (codes "x86-64", codes "amd64")
    ∷ (codes "aarch64", codes "arm64")
    ∷ (codes "armhf", codes "arm")
    ∷ (codes "armel", codes "arm")
    ∷ []

-- the variants that an architecture's other name tells, whatever variant is stated beside it
unfoldable pub told_variants : List (List ℕ × List ℕ)
told_variants = (codes "i386", []) ∷ (codes "armhf", codes "v7") ∷ (codes "armel", codes "v6") ∷ []

-- the variant that goes without saying, and numbers without their `v`
unfoldable pub amd64_names : List (List ℕ × List ℕ)
amd64_names = (codes "v1", []) ∷ []

unfoldable pub arm64_names : List (List ℕ × List ℕ)
arm64_names = (codes "v8", []) ∷ (codes "8", []) ∷ []

unfoldable pub arm_names : List (List ℕ × List ℕ)
arm_names = ([], codes "v7") ∷ (codes "5", codes "v5") ∷ (codes "6", codes "v6") ∷ (codes "7", codes "v7") ∷ (codes "8", codes "v8") ∷ []

-- what a name means in a table
abbrev pub meaning : List (List ℕ × List ℕ) → List ℕ → Option (List ℕ)
meaning [] name = None
meaning (row ∷ rows) name = if bytes_eq name row.0 then Some row.1 else meaning rows name

-- what it means, else the name itself
abbrev pub named : List (List ℕ × List ℕ) → List ℕ → List ℕ
named table name = unwrap_or (meaning table name) name

-- the other names of an architecture's variants
abbrev pub variant_names : List ℕ → List (List ℕ × List ℕ)
variant_names architecture =
    if bytes_eq architecture (codes "amd64") then amd64_names
    else (if bytes_eq architecture (codes "arm64") then arm64_names else (if bytes_eq architecture (codes "arm") then arm_names else []))

-- a text in lower case
abbrev pub lower : List ℕ → List ℕ
lower text = str_to_ascii_lowercase text

abbrev pub normal_architecture : List ℕ → List ℕ
normal_architecture architecture = named architecture_names (lower architecture)

abbrev pub normal_variant : List ℕ → List ℕ → List ℕ
normal_variant architecture variant =
    named (variant_names (normal_architecture architecture)) (unwrap_or (meaning told_variants (lower architecture)) (lower variant))

abbrev pub normalized : List ℕ → List ℕ → List ℕ → Names
normalized os architecture variant = record {
  os = named os_names (lower os);
  architecture = normal_architecture architecture;
  variant = normal_variant architecture variant;
}

-- the variant that is stated; an absent one is empty
abbrev pub stated_variant : Option (String Global) → List ℕ
stated_variant None = []
stated_variant (Some text) = string_bytes text

-- the normalized names of a platform
abbrev pub names_of : Platform → Names
names_of p = normalized (name_text (os_name p.os)) (name_text (arch_name p.architecture)) (stated_variant p.variant)
