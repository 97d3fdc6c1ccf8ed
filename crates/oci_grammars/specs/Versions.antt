-- Semantic versions (Semantic Versioning 2.0.0, "Backus-Naur Form Grammar for Valid SemVer Versions"; a number may be of any size).
use Rattle.std.specs.Prelude.{ℕ, ◌⊎◌, not, List, IsTrue}
use Rattle.std.specs.Char.{is_ascii_digit}
use Rattle.std.specs.List.{list_all}
use Rattle.oci_base.specs.Classes.{plus, dash, dot, is_host_byte, IsIn, IsSomeOf, IsMark, IsJoined}
use Rattle.oci_grammars.specs.Numbers.{IsNumeric}
use Rattle.oci_grammars.specs.Parts.{IsExtended, IsPair}

-- version core: major "." minor "." patch
abbrev pub IsVersionCore : List ℕ → Type 0
IsVersionCore text = IsPair dot IsNumeric (IsPair dot IsNumeric IsNumeric) text

-- pre-release identifier: a number, or letters, digits and "-" that are not digits alone
abbrev pub IsPreIdentifier : List ℕ → Type 0
IsPreIdentifier text = IsNumeric text ⊎ (IsIn is_host_byte text × IsTrue (not (list_all is_ascii_digit text)))

-- version core ["-" pre-release] ["+" build]
abbrev pub IsSemver : List ℕ → Type 0
IsSemver text =
    IsExtended plus (IsExtended dash IsVersionCore (IsJoined (IsMark dot) IsPreIdentifier)) (IsJoined (IsMark dot) (IsSomeOf is_host_byte)) text
