-- URIs (RFC 3986, section 3; of an IPv6 address the bytes alone are decided, and of a port that it is digits).
use Rattle.std.specs.Prelude.{ℕ, ◌≡◌, ◌⊎◌, Bool, List, [], ◌∷◌, codes, map, IsTrue}
use Rattle.std.specs.Char.{is_ascii_digit, is_ascii_alphabetic, is_ascii_hexdigit, to_ascii_lowercase}
use Rattle.oci_base.specs.Classes.{dot, slash, colon, at_sign, IsIn, IsSomeOf}
use Rattle.oci_grammars.specs.Classes.{is_scheme_byte, is_reg_name_byte, is_user_info_byte, is_path_byte, is_query_byte, is_address_byte}
use Rattle.oci_grammars.specs.Parts.{IsAny, IsBehind, IsExtended, IsHeaded, IsPair, IsPrefaced}

-- bytes of the class, and "%" with two hexadecimal digits (section 2.1)
pub data IsCoded (class : ℕ → Bool) : List ℕ → Type 0 where
  none : IsCoded class []
  plain : (b : ℕ) (rest : List ℕ) → IsTrue (class b) → IsCoded class rest → IsCoded class (b ∷ rest)
  encoded : (high low : ℕ) (rest : List ℕ) → IsTrue (is_ascii_hexdigit high) → IsTrue (is_ascii_hexdigit low) → IsCoded class rest
      → IsCoded class (37 ∷ high ∷ low ∷ rest)

-- scheme = ALPHA *( ALPHA / DIGIT / "+" / "-" / "." )
abbrev pub IsScheme : List ℕ → Type 0
IsScheme text = IsHeaded is_ascii_alphabetic is_scheme_byte text

-- IPvFuture behind its "v" = 1*HEXDIG "." 1*( unreserved / sub-delims / ":" )
abbrev pub IsFutureAddress : List ℕ → Type 0
IsFutureAddress text = IsPair dot (IsSomeOf is_ascii_hexdigit) (IsSomeOf is_user_info_byte) text

-- an IPv6 address by its bytes, or IPvFuture
abbrev pub IsAddress : List ℕ → Type 0
IsAddress text = IsSomeOf is_address_byte text ⊎ (IsBehind (codes "v") IsFutureAddress text ⊎ IsBehind (codes "V") IsFutureAddress text)

-- nothing, or ":" and a port, which may be empty
abbrev pub IsPortTail : List ℕ → Type 0
IsPortTail text = (text ≡ []) ⊎ IsBehind (codes ":") (IsIn is_ascii_digit) text

-- host [":" port], where host = IP-literal / reg-name, and an IPv4 address is a reg-name by its bytes
abbrev pub IsHostPort : List ℕ → Type 0
IsHostPort text = IsBehind (codes "[") (IsPair 93 IsAddress IsPortTail) text ⊎ IsExtended colon (IsCoded is_reg_name_byte) (IsIn is_ascii_digit) text

-- authority = [userinfo "@"] host [":" port]
abbrev pub IsAuthority : List ℕ → Type 0
IsAuthority text = IsPrefaced at_sign (IsCoded is_user_info_byte) IsHostPort text

-- hier-part = "//" authority path-abempty, or a path that does not begin with "//"
abbrev pub IsHierPart : List ℕ → Type 0
IsHierPart text =
    IsBehind (codes "//") (IsExtended slash IsAuthority (IsCoded is_path_byte)) text
    ⊎ (IsCoded is_path_byte text × ¬ IsBehind (codes "//") IsAny text)

-- scheme ":" hier-part
abbrev pub IsSchemePath : List ℕ → Type 0
IsSchemePath text = IsPair colon IsScheme IsHierPart text

-- URI = scheme ":" hier-part [ "?" query ] [ "#" fragment ]
abbrev pub IsUri : List ℕ → Type 0
IsUri text = IsExtended 35 (IsExtended 63 IsSchemePath (IsCoded is_query_byte)) (IsCoded is_query_byte) text

-- the word, but for the case of letters
abbrev pub IsAnyCase : List ℕ → List ℕ → Type 0
IsAnyCase word text = map to_ascii_lowercase text ≡ map to_ascii_lowercase word

-- one of the words, but for the case of letters
abbrev pub IsWordOf : List (List ℕ) → List ℕ → Type 0
IsWordOf [] text = ⊥
IsWordOf (word ∷ words) text = IsAnyCase word text ⊎ IsWordOf words text

-- a URI whose scheme is `http` or `https`, with an authority (RFC 7230, section 2.7; that the host is not empty is not asked)
abbrev pub IsHttpUri : List ℕ → Type 0
IsHttpUri text = IsUri text × IsPair colon (λ s. IsAnyCase (codes "http") s ⊎ IsAnyCase (codes "https") s) (IsBehind (codes "//") IsAny) text
