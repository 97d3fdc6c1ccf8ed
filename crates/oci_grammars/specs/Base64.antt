-- Base64 (RFC 4648, section 4; that the unused bits of the last digit are zero is not asked, as section 3.5 leaves it to decoders).
use Rattle.std.specs.Prelude.{ℕ, ◌≡◌, ◌⊎◌, ◌%◌, List, [], length, codes}
use Rattle.oci_base.specs.Classes.{IsIn}
use Rattle.oci_grammars.specs.Classes.{is_base64_byte}
use Rattle.oci_grammars.specs.Parts.{IsRun}

-- nothing, "=" or "=="
abbrev pub IsPadding : List ℕ → Type 0
IsPadding text = (text ≡ []) ⊎ ((text ≡ codes "=") ⊎ (text ≡ codes "=="))

-- digits and padding, a multiple of four bytes
abbrev pub IsBase64 : List ℕ → Type 0
IsBase64 text = IsRun (IsIn is_base64_byte) IsPadding text × (length text % 4 ≡ 0)
