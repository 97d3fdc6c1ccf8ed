-- A reference read byte by byte: the states of its parts, and what it means that a scanner stands after a text.
use Rattle.std.specs.Prelude.{◌≡◌, ℕ, ◌+◌, ◌&&◌, ◌||◌, ◌==◌, nat_lt, Bool, true, false, List, length, Option, Some, None, if◌then◌else◌}
use Rattle.std.specs.Char.{is_ascii_digit, is_ascii_alphabetic, is_ascii_alphanumeric, is_ascii_hexdigit}
use Rattle.std.specs.List.{fold}
use Rattle.oci_base.specs.Classes.{dash, dot, slash, colon, at_sign, underscore, is_lower, is_word, is_tag_byte, is_joint}
use Rattle.oci_reference.specs.declared.scanner.domain.DomainState.{DomainState}
use Rattle.oci_reference.specs.declared.scanner.domain.DomainState.TheVariants.{BeforeLabel, InLabel, InHyphens, AfterColon, InPort, NoDomain}
use Rattle.oci_reference.specs.declared.scanner.path.PathState.{PathState}
use Rattle.oci_reference.specs.declared.scanner.path.PathState.TheVariants.{BeforeRun, InRun, AfterUnderscore, InDashes, NoPath}
use Rattle.oci_reference.specs.declared.scanner.tag.TagState.{TagState}
use Rattle.oci_reference.specs.declared.scanner.tag.TagState.TheVariants.{BeforeTag, InTag, NoTag}
use Rattle.oci_reference.specs.declared.scanner.digest.DigestState.{DigestState}
use Rattle.oci_reference.specs.declared.scanner.digest.DigestState.TheVariants.{BeforeWord, InWord, InDigits, NoDigest}
use Rattle.oci_reference.specs.declared.scanner.places.Places.{Places}
use Rattle.oci_reference.specs.declared.scanner.Scanner.{Scanner}

-- the next state of the domain that the text may begin with
abbrev pub domain_next : DomainState → ℕ → DomainState
domain_next BeforeLabel b = if is_ascii_alphanumeric b then InLabel else NoDomain
domain_next InLabel b =
    if is_ascii_alphanumeric b then InLabel
    else (if b == dash then InHyphens else (if b == dot then BeforeLabel else (if b == colon then AfterColon else NoDomain)))
domain_next InHyphens b = if is_ascii_alphanumeric b then InLabel else (if b == dash then InHyphens else NoDomain)
domain_next AfterColon b = if is_ascii_digit b then InPort else NoDomain
domain_next InPort b = if is_ascii_digit b then InPort else NoDomain
domain_next NoDomain b = NoDomain

-- the text is a domain
abbrev pub ends_domain : DomainState → Bool
ends_domain BeforeLabel = false
ends_domain InLabel = true
ends_domain InHyphens = false
ends_domain AfterColon = false
ends_domain InPort = true
ends_domain NoDomain = false

-- the next state of the name
abbrev pub path_next : PathState → ℕ → PathState
path_next BeforeRun b = if is_lower b then InRun else NoPath
path_next InRun b =
    if is_lower b then InRun
    else (if (b == dot) || (b == slash) then BeforeRun else (if b == underscore then AfterUnderscore else (if b == dash then InDashes else NoPath)))
path_next AfterUnderscore b = if is_lower b then InRun else (if b == underscore then BeforeRun else NoPath)
path_next InDashes b = if is_lower b then InRun else (if b == dash then InDashes else NoPath)
path_next NoPath b = NoPath

-- the text is a name
abbrev pub ends_name : PathState → Bool
ends_name BeforeRun = false
ends_name InRun = true
ends_name AfterUnderscore = false
ends_name InDashes = false
ends_name NoPath = false

-- the next state of the tag, of at most 128 bytes
abbrev pub tag_next : TagState → ℕ → TagState
tag_next BeforeTag b = if is_word b then InTag 1 else NoTag
tag_next (InTag count) b = if is_tag_byte b && nat_lt count 128 then InTag (count + 1) else NoTag
tag_next NoTag b = NoTag

-- the text ends with a tag
abbrev pub ends_tag : TagState → Bool
ends_tag BeforeTag = false
ends_tag (InTag count) = true
ends_tag NoTag = false

-- the next state of the digest; of its digits 32 are counted
abbrev pub digest_next : DigestState → ℕ → DigestState
digest_next BeforeWord b = if is_ascii_alphabetic b then InWord else NoDigest
digest_next InWord b =
    if is_ascii_alphanumeric b then InWord else (if is_joint b then BeforeWord else (if b == colon then InDigits 0 else NoDigest))
digest_next (InDigits count) b = if is_ascii_hexdigit b then (if nat_lt count 32 then InDigits (count + 1) else InDigits count) else NoDigest
digest_next NoDigest b = NoDigest

-- the text ends with a digest
abbrev pub ends_digest : DigestState → Bool
ends_digest BeforeWord = false
ends_digest InWord = false
ends_digest (InDigits count) = count == 32
ends_digest NoDigest = false

-- before the first byte
abbrev pub start : Scanner
start = record {
  count = 0;
  domain = BeforeLabel;
  path = BeforeRun;
  tag = NoTag;
  digest = NoDigest;
  name = 0;
  tag_begin = 0;
  closed_tag = None;
  digest_begin = 0;
}

-- behind a domain a slash begins the path anew, behind a name a colon begins a tag, and behind either an `@` begins a digest
abbrev pub step : Scanner → ℕ → Scanner
step s b = record {
  count = s.count + 1;
  domain = domain_next s.domain b;
  path = if (b == slash) && ends_domain s.domain then BeforeRun else path_next s.path b;
  tag = if (b == colon) && ends_name s.path then BeforeTag else tag_next s.tag b;
  digest = if (b == at_sign) && (ends_name s.path || ends_tag s.tag) then BeforeWord else digest_next s.digest b;
  name = if ends_name s.path then s.count else s.name;
  tag_begin = if b == colon then s.count + 1 else s.tag_begin;
  closed_tag = if ends_name s.path then None else (if ends_tag s.tag then Some (s.tag_begin, s.count) else s.closed_tag);
  digest_begin = if b == at_sign then s.count + 1 else s.digest_begin;
}

-- the scanner is what the text leads to, byte by byte
abbrev pub Stands : Scanner → List ℕ → Type 0
Stands s text = s ≡ fold step start text

-- how many bytes were pushed
abbrev pub counted : Scanner → ℕ
counted s = s.count

-- where a part lies whose mark stands at this place
abbrev pub place_behind : ℕ → Option (List ℕ) → Option (ℕ × ℕ)
place_behind place None = None
place_behind place (Some part) = Some (place + 1, place + 1 + length part)

-- where that part ends, or the place itself where there is none
abbrev pub end_behind : ℕ → Option (List ℕ) → ℕ
end_behind place None = place
end_behind place (Some part) = place + 1 + length part

-- where the parts of a reference lie
abbrev pub places : List ℕ → Option (List ℕ) → Option (List ℕ) → Places
places name tag digest = record {
  name = length name;
  tag = place_behind (length name) tag;
  digest = place_behind (end_behind (length name) tag) digest;
}

-- the places that a scanner holds
abbrev pub found : Scanner → Option Places
found s =
    if ends_name s.path then Some (record { name = s.count; tag = None; digest = None })
    else (if ends_tag s.tag then Some (record { name = s.name; tag = Some (s.tag_begin, s.count); digest = None })
    else (if ends_digest s.digest then Some (record { name = s.name; tag = s.closed_tag; digest = Some (s.digest_begin, s.count) })
    else None))
