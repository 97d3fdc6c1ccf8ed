-- What an accepted reference stands for, and why another text is refused (distribution specification, "Pulling manifests"; the limits on the digest and the length are those of common registry clients).
use Rattle.std.specs.Prelude.{◌≡◌, ◌≢◌, ℕ, ◌⊎◌, ◌==◌, nat_lt, List, [], length, codes, bytes_eq, Option, Some, None, if◌then◌else◌}
use Rattle.std.specs.Char.{is_ascii_uppercase}
use Rattle.std.specs.List.{list_any}
use Rattle.oci_base.specs.Classes.{until, after, colon}
use Rattle.oci_reference.specs.declared.error.ParseError.{ParseError}
use Rattle.oci_reference.specs.declared.error.ParseError.TheVariants.{DigestInvalidFormat, DigestInvalidLength, DigestUnsupported, NameContainsUppercase, NameEmpty, NameTooLong, ReferenceInvalidFormat, TagInvalidFormat, Memory}
use Rattle.oci_reference.specs.Reference.{IsReference}
use Rattle.oci_reference.specs.Names.{default_name}
use Rattle.oci_reference.specs.Parts.{Parts}

-- the tag, which is `latest` where neither tag nor digest is given
abbrev pub or_latest : Option (List ℕ) → Option (List ℕ) → Option (List ℕ)
or_latest None None = Some (codes "latest")
or_latest None (Some digest) = None
or_latest (Some tag) digest = Some tag

-- the parts that a name, a tag and a digest stand for
abbrev pub parts_of : List ℕ → Option (List ℕ) → Option (List ℕ) → Parts
parts_of name tag digest = record {
  registry = (default_name name).0;
  repository = (default_name name).1;
  tag = or_latest tag digest;
  digest = digest;
  mirror = None;
}

-- the digest has this many digits
abbrev pub if_digits : ℕ → List ℕ → Option ParseError
if_digits count digest = if length (after colon digest) == count then None else Some DigestInvalidLength

-- a digest is by `sha256`, `sha384` or `sha512`, and has 64, 96 or 128 digits
abbrev pub digest_limit : Option (List ℕ) → Option ParseError
digest_limit None = None
digest_limit (Some digest) =
    if bytes_eq (until colon digest) (codes "sha256") then if_digits 64 digest
    else (if bytes_eq (until colon digest) (codes "sha384") then if_digits 96 digest
    else (if bytes_eq (until colon digest) (codes "sha512") then if_digits 128 digest
    else Some DigestUnsupported))

-- what is asked beyond the grammar: a lowercase repository, of at most 255 bytes, and then the digest
abbrev pub limit : List ℕ → Option (List ℕ) → Option ParseError
limit repository digest =
    if list_any is_ascii_uppercase repository then Some NameContainsUppercase
    else (if nat_lt 255 (length repository) then Some NameTooLong else digest_limit digest)

-- the text is a reference within the limits, and these are its parts
pub record Accepted (text : List ℕ) (parts : Parts) : Type 0 where
  pub name : List ℕ
  pub tag : Option (List ℕ)
  pub digest : Option (List ℕ)
  pub reading : IsReference text name tag digest
  pub within : limit (default_name name).1 digest ≡ None
  pub are : parts ≡ parts_of name tag digest

-- the text is refused for this
abbrev pub Refused : List ℕ → ParseError → Type 0
Refused text error =
    ((text ≡ []) × (error ≡ NameEmpty))
    ⊎ (((text ≢ []) × (error ≡ ReferenceInvalidFormat) × ((name : List ℕ) (tag digest : Option (List ℕ)) → ¬ (IsReference text name tag digest)))
    ⊎ ((name : List ℕ) × (tag : Option (List ℕ)) × (digest : Option (List ℕ)) × IsReference text name tag digest × (limit (default_name name).1 digest ≡ Some error)))

-- what an error tells of the text: `Memory` that it is accepted, and all others why it is not
abbrev pub Tells : List ℕ → ParseError → Type 0
Tells text DigestInvalidFormat = ⊥
Tells text DigestInvalidLength = Refused text DigestInvalidLength
Tells text DigestUnsupported = Refused text DigestUnsupported
Tells text NameContainsUppercase = Refused text NameContainsUppercase
Tells text NameEmpty = Refused text NameEmpty
Tells text NameTooLong = Refused text NameTooLong
Tells text ReferenceInvalidFormat = Refused text ReferenceInvalidFormat
Tells text TagInvalidFormat = ⊥
Tells text Memory = (parts : Parts) × Accepted text parts
