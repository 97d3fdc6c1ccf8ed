-- Platforms as they are written on command lines: `os/architecture` or `os/architecture/variant`.
use Rattle.std.specs.Prelude.{ℕ, ◌<◌, ◌==◌, ◌||◌, Bool, IsTrue, List, ◌∷◌, ◌++◌, length, Option, Some, None, ◌≡◌, option_map, string_bytes}
use Rattle.std.specs.Char.{is_ascii_alphanumeric}
use Rattle.std.specs.List.{All}
use Rattle.oci_base.specs.Names.{opened}
use Rattle.oci_text.specs.Arch.{arch_name, arches}
use Rattle.oci_text.specs.Os.{os_name, oses}
use Rattle.oci_descriptor.specs.declared.platform.Platform.{Platform}

-- an ASCII letter or digit, `_`, `-` or `.`
abbrev pub is_part_byte : ℕ → Bool
is_part_byte b = is_ascii_alphanumeric b || (b == 95) || (b == 45) || (b == 46)

-- one or more of these
abbrev pub IsPart : List ℕ → Type 0
IsPart text = (0 < length text) × All (λ b. IsTrue (is_part_byte b)) text

-- the parts of a text, between slashes
pub data HasParts : List ℕ → List ℕ → List ℕ → Option (List ℕ) → Type 0 where
  two : (os architecture : List ℕ) → IsPart os → IsPart architecture → HasParts (os ++ 47 ∷ architecture) os architecture None
  three : (os architecture variant : List ℕ) → IsPart os → IsPart architecture → IsPart variant
      → HasParts (os ++ 47 ∷ (architecture ++ 47 ∷ variant)) os architecture (Some variant)

-- the platform names what these parts do, and nothing else
pub record IsOfParts (os architecture : List ℕ) (variant : Option (List ℕ)) (p : Platform) : Type 0 where
  pub is_os : os_name p.os ≡ opened oses os
  pub is_architecture : arch_name p.architecture ≡ opened arches architecture
  pub is_variant : option_map string_bytes p.variant ≡ variant
  pub no_version : p.os_version ≡ None
  pub no_os_features : p.os_features ≡ None
  pub no_features : p.features ≡ None

-- the platform is that of the parts of a text
pub record IsOfText (text : List ℕ) (p : Platform) : Type 0 where
  pub os : List ℕ
  pub architecture : List ℕ
  pub variant : Option (List ℕ)
  pub has_parts : HasParts text os architecture variant
  pub is_of_parts : IsOfParts os architecture variant p

-- the text has no parts of that kind
abbrev pub IsNoPlatform : List ℕ → Type 0
IsNoPlatform text = (os architecture : List ℕ) (variant : Option (List ℕ)) → ¬ HasParts text os architecture variant
