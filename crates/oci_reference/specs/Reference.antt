-- The grammar of references (distribution specification, "Pulling manifests"; domain and digest as in the reference grammar of CNCF Distribution).
use Rattle.std.specs.Prelude.{◌≡◌, ℕ, ◌≤◌, ◌⊎◌, ◌==◌, List, ◌∷◌, ◌++◌, length, codes, Option, IfSome}
use Rattle.std.specs.Char.{is_ascii_digit, is_ascii_alphanumeric, is_ascii_alphabetic, is_ascii_hexdigit}
use Rattle.oci_base.specs.Classes.{dash, dot, slash, colon, at_sign, is_lower, is_host_byte, is_word, is_tag_byte, is_joint, IsIn, IsSomeOf, IsOneOf, IsMark, IsJoined, behind}

-- `.`, `_`, `__`, or one or more `-`
abbrev pub IsSeparator : List ℕ → Type 0
IsSeparator text = (text ≡ codes ".") ⊎ ((text ≡ codes "_") ⊎ ((text ≡ codes "__") ⊎ IsSomeOf (λ b. b == dash) text))

-- runs of [a-z0-9] with separators between
abbrev pub IsComponent : List ℕ → Type 0
IsComponent text = IsJoined IsSeparator (IsSomeOf is_lower) text

-- components joined by slashes
abbrev pub IsPath : List ℕ → Type 0
IsPath text = IsJoined (IsMark slash) IsComponent text

-- a letter or digit; or two of them, with letters, digits and dashes between
abbrev pub IsDomainComponent : List ℕ → Type 0
IsDomainComponent text =
    IsOneOf is_ascii_alphanumeric text
    ⊎ ((first middle last : List ℕ) × IsOneOf is_ascii_alphanumeric first × IsIn is_host_byte middle × IsOneOf is_ascii_alphanumeric last × (text ≡ first ++ middle ++ last))

-- domain components joined by dots
abbrev pub IsHost : List ℕ → Type 0
IsHost text = IsJoined (IsMark dot) IsDomainComponent text

-- a host, and a port after a colon
pub record HasPort (text : List ℕ) : Type 0 where
  pub host : List ℕ
  pub port : List ℕ
  pub is_host : IsHost host
  pub is_port : IsSomeOf is_ascii_digit port
  pub spelled : text ≡ host ++ colon ∷ port

-- a host, with a port or without
abbrev pub IsDomain : List ℕ → Type 0
IsDomain text = IsHost text ⊎ HasPort text

-- a domain, and a path after a slash
pub record HasDomain (text : List ℕ) : Type 0 where
  pub domain : List ℕ
  pub path : List ℕ
  pub is_domain : IsDomain domain
  pub is_path : IsPath path
  pub spelled : text ≡ domain ++ slash ∷ path

-- a path, with a domain before it or without
abbrev pub IsName : List ℕ → Type 0
IsName text = IsPath text ⊎ HasDomain text

-- a word byte, and at most 127 tag bytes
pub record IsTag (text : List ℕ) : Type 0 where
  pub first : List ℕ
  pub rest : List ℕ
  pub is_first : IsOneOf is_word first
  pub are_rest : IsIn is_tag_byte rest
  pub short : length rest ≤ 127
  pub spelled : text ≡ first ++ rest

-- a letter, and then letters and digits
pub record IsWord (text : List ℕ) : Type 0 where
  pub first : List ℕ
  pub rest : List ℕ
  pub is_first : IsOneOf is_ascii_alphabetic first
  pub are_rest : IsIn is_ascii_alphanumeric rest
  pub spelled : text ≡ first ++ rest

-- words joined by single marks, a colon, and at least 32 hexadecimal digits
pub record IsRefDigest (text : List ℕ) : Type 0 where
  pub algorithm : List ℕ
  pub digits : List ℕ
  pub is_algorithm : IsJoined (IsOneOf is_joint) IsWord algorithm
  pub are_digits : IsIn is_ascii_hexdigit digits
  pub many : 32 ≤ length digits
  pub spelled : text ≡ algorithm ++ colon ∷ digits

-- name, tag and digest, the last two behind their marks
pub record IsReference (text name : List ℕ) (tag digest : Option (List ℕ)) : Type 0 where
  pub spelled : text ≡ name ++ behind colon tag ++ behind at_sign digest
  pub is_name : IsName name
  pub is_tag : IfSome tag IsTag
  pub is_digest : IfSome digest IsRefDigest
