-- Semantic versions are decided at their marks.
use Rattle.std.proofs.Common.{◌≡◌, ℕ, ◌&&◌, not, List, [], ◌∷◌, false, refl, sym, subst, inl, inr}
use Rattle.std.specs.Prelude.{codes, ◌==◌}
use Rattle.std.specs.Char.{is_ascii_digit}
use Rattle.std.specs.List.{list_all}
use Rattle.std.proofs.lemmas.Bool.Decides.{Decides-and, Decides-or}
use Rattle.oci_base.specs.Classes.{plus, dash, dot, until, after, is_host_byte, IsSomeOf, IsMark, IsJoined}
use Rattle.oci_base.proofs.Lacks.{Lacks, lacks_in, lacks_some, lacks_joined}
use Rattle.oci_grammars.specs.Classes.{is_positive}
use Rattle.oci_grammars.specs.Decided.{is_numeric, is_pre_identifier, is_version_core, is_pre_release, is_semver, part_of, are_joined}
use Rattle.oci_grammars.specs.Numbers.{IsNumeric}
use Rattle.oci_grammars.specs.Parts.{IsExtended, IsPair}
use Rattle.oci_grammars.specs.Versions.{IsVersionCore, IsPreIdentifier, IsSemver}
use Rattle.oci_grammars.specs.declared.parts.Part.TheVariants.{PreIdentifier, BuildIdentifier}
use Rattle.oci_grammars.proofs.Deciding.{Tells, Decides-itself, in_tells, some_tells, headed_lacks, pair_tells, pair_lacks, extended_tells, joined_tells}
use Rattle.oci_grammars.proofs.Numerals.{numeric_tells}

numeric_lacks : (mark : ℕ) → is_positive mark ≡ false → is_ascii_digit mark ≡ false → (x : List ℕ) → IsNumeric x → Lacks mark x
numeric_lacks mark out off x (inl e) = subst (Lacks mark) (sym e) (lacks_in is_ascii_digit mark off (codes "0") refl)
numeric_lacks mark out off x (inr h) = headed_lacks mark is_positive is_ascii_digit out off x h

-- ---- the core

abbrev IsMinorPatch : List ℕ → Type 0
IsMinorPatch t = IsPair dot IsNumeric IsNumeric t

core_tells : Tells is_version_core IsVersionCore
core_tells =
    pair_tells dot is_numeric (λ t. is_numeric (until dot t) && is_numeric (after dot t)) IsNumeric IsMinorPatch numeric_tells
    (pair_tells dot is_numeric is_numeric IsNumeric IsNumeric numeric_tells numeric_tells (numeric_lacks dot refl refl) refl) (numeric_lacks dot refl refl) refl

core_lacks : (mark : ℕ) → is_positive mark ≡ false → is_ascii_digit mark ≡ false → (dot == mark) ≡ false → (x : List ℕ) → IsVersionCore x → Lacks mark x
core_lacks mark out off apart =
    pair_lacks mark dot IsNumeric IsMinorPatch apart (numeric_lacks mark out off) (pair_lacks mark dot IsNumeric IsNumeric apart (numeric_lacks mark out off) (numeric_lacks mark out off))

-- ---- identifiers

pre_tells : Tells is_pre_identifier IsPreIdentifier
pre_tells t = Decides-or _ _ (numeric_tells t) (Decides-and _ _ (in_tells is_host_byte t) (Decides-itself (not (list_all is_ascii_digit t))))

pre_lacks : (mark : ℕ) → is_positive mark ≡ false → is_ascii_digit mark ≡ false → is_host_byte mark ≡ false → (x : List ℕ) → IsPreIdentifier x → Lacks mark x
pre_lacks mark out off free x (inl h) = numeric_lacks mark out off x h
pre_lacks mark out off free x (inr h) = lacks_in is_host_byte mark free x h.0

abbrev IsPres : List ℕ → Type 0
IsPres t = IsJoined (IsMark dot) IsPreIdentifier t

pres_tell : Tells (are_joined PreIdentifier dot) IsPres
pres_tell = joined_tells dot (part_of PreIdentifier) IsPreIdentifier pre_tells (pre_lacks dot refl refl refl)

abbrev IsBuilds : List ℕ → Type 0
IsBuilds t = IsJoined (IsMark dot) (IsSomeOf is_host_byte) t

builds_tell : Tells (are_joined BuildIdentifier dot) IsBuilds
builds_tell = joined_tells dot (part_of BuildIdentifier) (IsSomeOf is_host_byte) (some_tells is_host_byte) (lacks_some is_host_byte dot refl)

-- ---- the whole

abbrev IsPreRelease : List ℕ → Type 0
IsPreRelease t = IsExtended dash IsVersionCore IsPres t

pre_release_tells : Tells is_pre_release IsPreRelease
pre_release_tells = extended_tells dash is_version_core (are_joined PreIdentifier dot) IsVersionCore IsPres core_tells pres_tell (core_lacks dash refl refl refl)

dot_lacks_plus : (s : List ℕ) → IsMark dot s → Lacks plus s
dot_lacks_plus s e = subst (Lacks plus) (sym e) (lacks_in (λ b. b == dot) plus refl (dot ∷ []) refl)

pre_release_lacks : (x : List ℕ) → IsPreRelease x → Lacks plus x
pre_release_lacks x (inl h) = core_lacks plus refl refl refl x h
pre_release_lacks x (inr h) =
    pair_lacks plus dash IsVersionCore IsPres refl (core_lacks plus refl refl refl)
    (lacks_joined plus (IsMark dot) IsPreIdentifier dot_lacks_plus (pre_lacks plus refl refl refl)) x h

pub semver : Tells is_semver IsSemver
semver = extended_tells plus is_pre_release (are_joined BuildIdentifier dot) IsPreRelease IsBuilds pre_release_tells builds_tell pre_release_lacks
