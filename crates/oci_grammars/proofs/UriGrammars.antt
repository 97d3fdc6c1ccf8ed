-- URIs are decided at their marks.
use Rattle.std.proofs.Common.{◌≡◌, ℕ, ◌≤◌, ◌||◌, ◌⊎◌, List, [], ◌∷◌, ◌++◌, Bool, true, false, inl, inr, refl, sym, ap, ◌∙◌, subst, true≢false, arith}
use Rattle.std.specs.Prelude.{codes, nat_le, nat_eq, map, ◌==◌}
use Rattle.std.specs.Char.{is_ascii_digit, is_ascii_alphabetic, is_ascii_alphanumeric, is_ascii_hexdigit, is_ascii_lowercase, to_ascii_lowercase}
use Rattle.std.specs.Int.{is_in_range}
use Rattle.std.specs.List.{list_all, starts_with}
use Rattle.std.proofs.lemmas.Bool.Decides.{Decides-and, Decides-or, Decides-not, Decides-eqb}
use Rattle.std.proofs.lemmas.Slice.Eq.{bytes_eq-Decides}
use Rattle.oci_base.specs.Classes.{dot, slash, colon, at_sign, has, IsIn, IsSomeOf}
use Rattle.oci_base.proofs.Lacks.{Lacks, lacks_in, lacks_some, both}
use Rattle.oci_base.proofs.Runs.{in_wider}
use Rattle.oci_grammars.specs.Classes.{is_scheme_byte, is_reg_name_byte, is_user_info_byte, is_path_byte, is_query_byte, is_address_byte}
use Rattle.oci_grammars.specs.Decided.{is_some_of, is_headed}
use Rattle.oci_grammars.specs.DecidedUris.{is_coded, is_future_address, is_address, is_port_tail, is_literal_port, is_name_port, is_host_port, is_authority, is_authority_path, is_hier_part, is_scheme_path, is_before_fragment, is_uri, is_any_case, is_http_uri}
use Rattle.oci_grammars.specs.Parts.{IsAny, IsBehind, IsExtended, IsPair, IsPrefaced}
use Rattle.oci_grammars.specs.Uris.{IsCoded, IsScheme, IsFutureAddress, IsAddress, IsPortTail, IsHostPort, IsAuthority, IsHierPart, IsSchemePath, IsUri, IsAnyCase, IsHttpUri}
use Rattle.oci_grammars.proofs.Deciding.{Tells, Decides-le, also, empty_tells, in_tells, some_tells, headed_tells, headed_lacks, pair_tells, pair_lacks, marked_tells, extended_tells, prefaced_tells, behind_tells, any_behind_tells}
use Rattle.oci_grammars.proofs.UriBytes.{coded_tells, in_coded}

-- ---- classes within classes

or_left : (a b : Bool) → a ≡ true → (a || b) ≡ true
or_left true b e = refl
or_left false b e = absurd (true≢false (sym e))

or_right : (a b : Bool) → b ≡ true → (a || b) ≡ true
or_right true b e = refl
or_right false b e = e

by_or : (a b c : Bool) → (a ≡ true → c ≡ true) → (b ≡ true → c ≡ true) → (a || b) ≡ true → c ≡ true
by_or true b c f g e = f refl
by_or false b c f g e = g e

range : (low high more b : ℕ) → high ≤ more → is_in_range low high b ≡ true → is_in_range low more b ≡ true
range low high more b h e = let k = both (nat_le low b) (nat_le b high) e in also _ _ k.0 ((Decides-le b more).1 (omega (arith, (Decides-le b high).0 k.1)))

hex_alphanumeric : (b : ℕ) → is_ascii_hexdigit b ≡ true → is_ascii_alphanumeric b ≡ true
hex_alphanumeric b =
    by_or (is_in_range 48 57 b || is_in_range 65 70 b) (is_in_range 97 102 b) (is_ascii_alphanumeric b)
    (λ e. or_left (is_in_range 48 57 b || is_in_range 65 90 b) (is_in_range 97 122 b)
    (by_or (is_in_range 48 57 b) (is_in_range 65 70 b) (is_in_range 48 57 b || is_in_range 65 90 b) (or_left (is_in_range 48 57 b) (is_in_range 65 90 b)) (λ k. or_right (is_in_range 48 57 b) (is_in_range 65 90 b) (range 65 70 90 b (omega arith) k)) e))
    (λ e. or_right (is_in_range 48 57 b || is_in_range 65 90 b) (is_in_range 97 122 b) (range 97 102 122 b (omega arith) e))

digit_alphanumeric : (b : ℕ) → is_ascii_digit b ≡ true → is_ascii_alphanumeric b ≡ true
digit_alphanumeric b e = or_left (is_in_range 48 57 b || is_in_range 65 90 b) (is_in_range 97 122 b) (or_left (is_in_range 48 57 b) (is_in_range 65 90 b) e)

-- what a host may have, and what an authority and a hier-part may
abbrev is_host_part : ℕ → Bool
is_host_part b = is_reg_name_byte b || has b (codes ":%[]")

abbrev is_authority_byte : ℕ → Bool
is_authority_byte b = is_host_part b || (b == at_sign)

abbrev is_hier_byte : ℕ → Bool
is_hier_byte b = is_authority_byte b || (b == slash)

reg_name_host : (b : ℕ) → is_reg_name_byte b ≡ true → is_host_part b ≡ true
reg_name_host b = or_left (is_reg_name_byte b) (has b (codes ":%[]"))

alphanumeric_host : (b : ℕ) → is_ascii_alphanumeric b ≡ true → is_host_part b ≡ true
alphanumeric_host b e = reg_name_host b (or_left (is_ascii_alphanumeric b) (has b (codes "-._~!$&'()*+,;=")) e)

hex_host : (b : ℕ) → is_ascii_hexdigit b ≡ true → is_host_part b ≡ true
hex_host b e = alphanumeric_host b (hex_alphanumeric b e)

digit_host : (b : ℕ) → is_ascii_digit b ≡ true → is_host_part b ≡ true
digit_host b e = alphanumeric_host b (digit_alphanumeric b e)

mark_host : (m b : ℕ) → is_host_part m ≡ true → (b == m) ≡ true → is_host_part b ≡ true
mark_host m b e k = ap is_host_part (same b m k) ∙ e
  where
    same : (b m : ℕ) → (b == m) ≡ true → b ≡ m
    same b m k = (Decides-eqb b m).0 k

user_host : (b : ℕ) → is_user_info_byte b ≡ true → is_host_part b ≡ true
user_host b = by_or (is_reg_name_byte b) (b == colon) (is_host_part b) (reg_name_host b) (mark_host colon b refl)

dot_host : (b : ℕ) → has b (codes ":.") ≡ true → is_host_part b ≡ true
dot_host b = by_or (58 == b) (has b (codes ".")) (is_host_part b) (turned 58 refl) (λ e. by_or (46 == b) false (is_host_part b) (turned 46 refl) (λ k. absurd (true≢false (sym k))) e)
  where
    turned : (m : ℕ) → is_host_part m ≡ true → (m == b) ≡ true → is_host_part b ≡ true
    turned m e k = sym (ap is_host_part ((Decides-eqb m b).0 k)) ∙ e

address_host : (b : ℕ) → is_address_byte b ≡ true → is_host_part b ≡ true
address_host b = by_or (is_ascii_hexdigit b) (has b (codes ":.")) (is_host_part b) (hex_host b) (dot_host b)

host_authority : (b : ℕ) → is_host_part b ≡ true → is_authority_byte b ≡ true
host_authority b = or_left (is_host_part b) (b == at_sign)

authority_hier : (b : ℕ) → is_authority_byte b ≡ true → is_hier_byte b ≡ true
authority_hier b = or_left (is_authority_byte b) (b == slash)

path_hier : (b : ℕ) → is_path_byte b ≡ true → is_hier_byte b ≡ true
path_hier b =
    by_or (is_user_info_byte b) (has b (codes "@/")) (is_hier_byte b) (λ e. authority_hier b (host_authority b (user_host b e)))
    (by_or (64 == b) (has b (codes "/")) (is_hier_byte b) (turned 64 refl) (λ e. by_or (47 == b) false (is_hier_byte b) (turned 47 refl) (λ k. absurd (true≢false (sym k))) e))
  where
    turned : (m : ℕ) → is_hier_byte m ≡ true → (m == b) ≡ true → is_hier_byte b ≡ true
    turned m e k = sym (ap is_hier_byte ((Decides-eqb m b).0 k)) ∙ e

-- ---- the bytes of texts made of parts

in_append : (class : ℕ → Bool) (x y : List ℕ) → IsIn class x → IsIn class y → IsIn class (x ++ y)
in_append class [] y h k = k
in_append class (b ∷ x) y h k = let parts = both (class b) (list_all class x) h in also _ _ parts.0 (in_append class x y parts.1 k)

in_pair : (class : ℕ → Bool) (mark : ℕ) (P Q : List ℕ → Type 0) → class mark ≡ true → ((x : List ℕ) → P x → IsIn class x) → ((x : List ℕ) → Q x → IsIn class x)
    → (t : List ℕ) → IsPair mark P Q t → IsIn class t
in_pair class mark P Q m front back t h = subst (IsIn class) (sym h.spelled) (in_append class h.front (mark ∷ h.back) (front h.front h.is_front) (also _ _ m (back h.back h.is_back)))

in_extended : (class : ℕ → Bool) (mark : ℕ) (P Q : List ℕ → Type 0) → class mark ≡ true → ((x : List ℕ) → P x → IsIn class x) → ((x : List ℕ) → Q x → IsIn class x)
    → (t : List ℕ) → IsExtended mark P Q t → IsIn class t
in_extended class mark P Q m front back t (inl h) = front t h
in_extended class mark P Q m front back t (inr h) = in_pair class mark P Q m front back t h

in_prefaced : (class : ℕ → Bool) (mark : ℕ) (P Q : List ℕ → Type 0) → class mark ≡ true → ((x : List ℕ) → P x → IsIn class x) → ((x : List ℕ) → Q x → IsIn class x)
    → (t : List ℕ) → IsPrefaced mark P Q t → IsIn class t
in_prefaced class mark P Q m front back t (inl h) = back t h
in_prefaced class mark P Q m front back t (inr h) = in_pair class mark P Q m front back t h

in_behind : (class : ℕ → Bool) (prefix : List ℕ) (P : List ℕ → Type 0) → IsIn class prefix → ((x : List ℕ) → P x → IsIn class x) → (t : List ℕ) → IsBehind prefix P t → IsIn class t
in_behind class prefix P m rest t h = subst (IsIn class) (sym h.spelled) (in_append class prefix h.rest m (rest h.rest h.is_rest))

-- ---- the host

future_tells : Tells is_future_address IsFutureAddress
unfolding is_future_address
future_tells =
    pair_tells dot (is_some_of is_ascii_hexdigit) (is_some_of is_user_info_byte) (IsSomeOf is_ascii_hexdigit) (IsSomeOf is_user_info_byte) (some_tells is_ascii_hexdigit) (some_tells is_user_info_byte)
    (lacks_some is_ascii_hexdigit dot refl) refl

in_future : (t : List ℕ) → IsFutureAddress t → IsIn is_host_part t
in_future = in_pair is_host_part dot (IsSomeOf is_ascii_hexdigit) (IsSomeOf is_user_info_byte) refl (λ x h. in_wider is_ascii_hexdigit is_host_part hex_host x h.1) (λ x h. in_wider is_user_info_byte is_host_part user_host x h.1)

address_tells : Tells is_address IsAddress
unfolding is_address
address_tells t =
    Decides-or _ _ (some_tells is_address_byte t)
    (Decides-or _ _ (behind_tells is_future_address IsFutureAddress future_tells (codes "v") t) (behind_tells is_future_address IsFutureAddress future_tells (codes "V") t))

in_address : (t : List ℕ) → IsAddress t → IsIn is_host_part t
in_address t (inl h) = in_wider is_address_byte is_host_part address_host t h.1
in_address t (inr (inl h)) = in_behind is_host_part (codes "v") IsFutureAddress refl in_future t h
in_address t (inr (inr h)) = in_behind is_host_part (codes "V") IsFutureAddress refl in_future t h

-- no "]" stands in an address
user_of_reg : (b : ℕ) → is_reg_name_byte b ≡ true → is_user_info_byte b ≡ true
user_of_reg b = or_left (is_reg_name_byte b) (b == colon)

user_of_hex : (b : ℕ) → is_ascii_hexdigit b ≡ true → is_user_info_byte b ≡ true
user_of_hex b e = user_of_reg b (or_left (is_ascii_alphanumeric b) (has b (codes "-._~!$&'()*+,;=")) (hex_alphanumeric b e))

user_future : (t : List ℕ) → IsFutureAddress t → IsIn is_user_info_byte t
user_future = in_pair is_user_info_byte dot (IsSomeOf is_ascii_hexdigit) (IsSomeOf is_user_info_byte) refl (λ x h. in_wider is_ascii_hexdigit is_user_info_byte user_of_hex x h.1) (λ x h. h.1)

address_lacks : (t : List ℕ) → IsAddress t → Lacks 93 t
address_lacks t (inl h) = lacks_some is_address_byte 93 refl t h
address_lacks t (inr (inl h)) = lacks_in is_user_info_byte 93 refl t (in_behind is_user_info_byte (codes "v") IsFutureAddress refl user_future t h)
address_lacks t (inr (inr h)) = lacks_in is_user_info_byte 93 refl t (in_behind is_user_info_byte (codes "V") IsFutureAddress refl user_future t h)

tail_tells : Tells is_port_tail IsPortTail
unfolding is_port_tail
tail_tells t = Decides-or _ _ (empty_tells t) (behind_tells (list_all is_ascii_digit) (IsIn is_ascii_digit) (in_tells is_ascii_digit) (codes ":") t)

in_tail : (t : List ℕ) → IsPortTail t → IsIn is_host_part t
in_tail t (inl e) = subst (IsIn is_host_part) (sym e) refl
in_tail t (inr h) = in_behind is_host_part (codes ":") (IsIn is_ascii_digit) refl (λ x k. in_wider is_ascii_digit is_host_part digit_host x k) t h

abbrev IsLiteralPort : List ℕ → Type 0
IsLiteralPort t = IsPair 93 IsAddress IsPortTail t

literal_tells : Tells is_literal_port IsLiteralPort
unfolding is_literal_port
literal_tells = marked_tells 93 is_address is_port_tail IsAddress IsPortTail address_tells tail_tells address_lacks

in_literal : (t : List ℕ) → IsLiteralPort t → IsIn is_host_part t
in_literal = in_pair is_host_part 93 IsAddress IsPortTail refl in_address in_tail

reg_tells : Tells (is_coded is_reg_name_byte) (IsCoded is_reg_name_byte)
reg_tells = coded_tells is_reg_name_byte refl

in_reg : (t : List ℕ) → IsCoded is_reg_name_byte t → IsIn is_host_part t
in_reg = in_coded is_reg_name_byte is_host_part refl reg_name_host hex_host

-- without ":"
abbrev is_name_byte : ℕ → Bool
is_name_byte b = is_reg_name_byte b || (b == 37)

reg_lacks : (t : List ℕ) → IsCoded is_reg_name_byte t → Lacks colon t
reg_lacks t h =
    lacks_in is_name_byte colon refl t
    (in_coded is_reg_name_byte is_name_byte refl (λ b. or_left (is_reg_name_byte b) (b == 37))
    (λ b e. or_left (is_reg_name_byte b) (b == 37) (or_left (is_ascii_alphanumeric b) (has b (codes "-._~!$&'()*+,;=")) (hex_alphanumeric b e))) t h)

abbrev IsNamePort : List ℕ → Type 0
IsNamePort t = IsExtended colon (IsCoded is_reg_name_byte) (IsIn is_ascii_digit) t

name_port_tells : Tells is_name_port IsNamePort
unfolding is_name_port
name_port_tells = extended_tells colon (is_coded is_reg_name_byte) (list_all is_ascii_digit) (IsCoded is_reg_name_byte) (IsIn is_ascii_digit) reg_tells (in_tells is_ascii_digit) reg_lacks

in_name_port : (t : List ℕ) → IsNamePort t → IsIn is_host_part t
in_name_port = in_extended is_host_part colon (IsCoded is_reg_name_byte) (IsIn is_ascii_digit) refl in_reg (λ x k. in_wider is_ascii_digit is_host_part digit_host x k)

host_tells : Tells is_host_port IsHostPort
unfolding is_host_port
host_tells t = Decides-or _ _ (behind_tells is_literal_port IsLiteralPort literal_tells (codes "[") t) (name_port_tells t)

in_host : (t : List ℕ) → IsHostPort t → IsIn is_host_part t
in_host t (inl h) = in_behind is_host_part (codes "[") IsLiteralPort refl in_literal t h
in_host t (inr h) = in_name_port t h

-- ---- the authority

user_tells : Tells (is_coded is_user_info_byte) (IsCoded is_user_info_byte)
user_tells = coded_tells is_user_info_byte refl

in_user : (t : List ℕ) → IsCoded is_user_info_byte t → IsIn is_host_part t
in_user = in_coded is_user_info_byte is_host_part refl user_host hex_host

authority_tells : Tells is_authority IsAuthority
unfolding is_authority
authority_tells =
    prefaced_tells at_sign (is_coded is_user_info_byte) is_host_port (IsCoded is_user_info_byte) IsHostPort user_tells host_tells
    (λ x h. lacks_in is_host_part at_sign refl x (in_user x h)) (λ x h. lacks_in is_host_part at_sign refl x (in_host x h))

in_authority : (t : List ℕ) → IsAuthority t → IsIn is_authority_byte t
in_authority =
    in_prefaced is_authority_byte at_sign (IsCoded is_user_info_byte) IsHostPort refl (λ x h. in_wider is_host_part is_authority_byte host_authority x (in_user x h))
    (λ x h. in_wider is_host_part is_authority_byte host_authority x (in_host x h))

-- ---- the path

path_tells : Tells (is_coded is_path_byte) (IsCoded is_path_byte)
path_tells = coded_tells is_path_byte refl

hex_hier : (b : ℕ) → is_ascii_hexdigit b ≡ true → is_hier_byte b ≡ true
hex_hier b e = authority_hier b (host_authority b (hex_host b e))

in_path : (t : List ℕ) → IsCoded is_path_byte t → IsIn is_hier_byte t
in_path = in_coded is_path_byte is_hier_byte refl path_hier hex_hier

abbrev IsAuthorityPath : List ℕ → Type 0
IsAuthorityPath t = IsExtended slash IsAuthority (IsCoded is_path_byte) t

authority_path_tells : Tells is_authority_path IsAuthorityPath
unfolding is_authority_path
authority_path_tells =
    extended_tells slash is_authority (is_coded is_path_byte) IsAuthority (IsCoded is_path_byte) authority_tells path_tells (λ x h. lacks_in is_authority_byte slash refl x (in_authority x h))

in_authority_path : (t : List ℕ) → IsAuthorityPath t → IsIn is_hier_byte t
in_authority_path = in_extended is_hier_byte slash IsAuthority (IsCoded is_path_byte) refl (λ x h. in_wider is_authority_byte is_hier_byte authority_hier x (in_authority x h)) in_path

hier_tells : Tells is_hier_part IsHierPart
unfolding is_hier_part
hier_tells t =
    Decides-or _ _ (behind_tells is_authority_path IsAuthorityPath authority_path_tells (codes "//") t)
    (Decides-and _ _ (path_tells t) (Decides-not _ (any_behind_tells (codes "//") t)))

in_hier : (t : List ℕ) → IsHierPart t → IsIn is_hier_byte t
in_hier t (inl h) = in_behind is_hier_byte (codes "//") IsAuthorityPath refl in_authority_path t h
in_hier t (inr h) = in_path t h.0

-- ---- the whole

scheme_tells : Tells (is_headed is_ascii_alphabetic is_scheme_byte) IsScheme
scheme_tells = headed_tells is_ascii_alphabetic is_scheme_byte

scheme_path_tells : Tells is_scheme_path IsSchemePath
unfolding is_scheme_path
scheme_path_tells =
    marked_tells colon (is_headed is_ascii_alphabetic is_scheme_byte) is_hier_part IsScheme IsHierPart scheme_tells hier_tells (headed_lacks colon is_ascii_alphabetic is_scheme_byte refl refl)

scheme_path_lacks : (mark : ℕ) → is_ascii_alphabetic mark ≡ false → is_scheme_byte mark ≡ false → is_hier_byte mark ≡ false → (colon == mark) ≡ false → (t : List ℕ) → IsSchemePath t → Lacks mark t
scheme_path_lacks mark out off free apart =
    pair_lacks mark colon IsScheme IsHierPart apart (headed_lacks mark is_ascii_alphabetic is_scheme_byte out off) (λ x h. lacks_in is_hier_byte mark free x (in_hier x h))

query_tells : Tells (is_coded is_query_byte) (IsCoded is_query_byte)
query_tells = coded_tells is_query_byte refl

abbrev IsBeforeFragment : List ℕ → Type 0
IsBeforeFragment t = IsExtended 63 IsSchemePath (IsCoded is_query_byte) t

before_fragment_tells : Tells is_before_fragment IsBeforeFragment
unfolding is_before_fragment
before_fragment_tells = extended_tells 63 is_scheme_path (is_coded is_query_byte) IsSchemePath (IsCoded is_query_byte) scheme_path_tells query_tells (scheme_path_lacks 63 refl refl refl refl)

-- no "#" stands in a query
abbrev is_wide_byte : ℕ → Bool
is_wide_byte b = is_query_byte b || (b == 37)

query_lacks : (t : List ℕ) → IsCoded is_query_byte t → Lacks 35 t
query_lacks t h =
    lacks_in is_wide_byte 35 refl t
    (in_coded is_query_byte is_wide_byte refl (λ b. or_left (is_query_byte b) (b == 37))
    (λ b e. or_left (is_query_byte b) (b == 37) (or_left (is_path_byte b) (b == 63) (or_left (is_user_info_byte b) (has b (codes "@/")) (user_of_hex b e)))) t h)

before_fragment_lacks : (t : List ℕ) → IsBeforeFragment t → Lacks 35 t
before_fragment_lacks t (inl h) = scheme_path_lacks 35 refl refl refl refl t h
before_fragment_lacks t (inr h) = pair_lacks 35 63 IsSchemePath (IsCoded is_query_byte) refl (scheme_path_lacks 35 refl refl refl refl) query_lacks t h

pub uri : Tells is_uri IsUri
unfolding is_uri
uri = extended_tells 35 is_before_fragment (is_coded is_query_byte) IsBeforeFragment (IsCoded is_query_byte) before_fragment_tells query_tells before_fragment_lacks

-- ---- http and https

lower_lacks : (t : List ℕ) → Lacks colon (map to_ascii_lowercase t) → Lacks colon t
lower_lacks [] h = tt
lower_lacks (b ∷ t) h = ((λ e. h.0 (ap to_ascii_lowercase e)), lower_lacks t h.1)

word_lacks : (word : List ℕ) → Lacks colon (map to_ascii_lowercase word) → (t : List ℕ) → IsAnyCase word t → Lacks colon t
word_lacks word free t e = lower_lacks t (subst (Lacks colon) (sym e) free)

abbrev IsHttpScheme : List ℕ → Type 0
IsHttpScheme s = IsAnyCase (codes "http") s ⊎ IsAnyCase (codes "https") s

http_lacks : (t : List ℕ) → IsHttpScheme t → Lacks colon t
http_lacks t (inl h) = word_lacks (codes "http") (lacks_in is_ascii_lowercase colon refl (codes "http") refl) t h
http_lacks t (inr h) = word_lacks (codes "https") (lacks_in is_ascii_lowercase colon refl (codes "https") refl) t h

http_tells : Tells (λ s. is_any_case (codes "http") s || is_any_case (codes "https") s) IsHttpScheme
http_tells s =
    Decides-or _ _ (bytes_eq-Decides (map to_ascii_lowercase s) (map to_ascii_lowercase (codes "http"))) (bytes_eq-Decides (map to_ascii_lowercase s) (map to_ascii_lowercase (codes "https")))

pub http_uri : Tells is_http_uri IsHttpUri
unfolding is_http_uri
http_uri t =
    Decides-and _ _ (uri t)
    (pair_tells colon (λ s. is_any_case (codes "http") s || is_any_case (codes "https") s) (λ z. starts_with nat_eq z (codes "//")) IsHttpScheme (IsBehind (codes "//") IsAny) http_tells
    (any_behind_tells (codes "//")) http_lacks refl t)
