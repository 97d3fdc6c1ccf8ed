-- What the deciders of URIs compute.
use Rattle.std.specs.Prelude.{ℕ, ◌&&◌, ◌||◌, ◌==◌, Bool, true, false, not, List, length, drop, nat_eq, codes, map, bytes_eq, if◌then◌else◌}
use Rattle.std.specs.Char.{is_ascii_digit, is_ascii_alphabetic, is_ascii_hexdigit, to_ascii_lowercase}
use Rattle.std.specs.List.{fold, list_any, list_all, starts_with}
use Rattle.oci_base.specs.Classes.{dot, slash, colon, at_sign, has, until, after}
use Rattle.oci_grammars.specs.Classes.{is_scheme_byte, is_reg_name_byte, is_user_info_byte, is_path_byte, is_query_byte, is_address_byte}
use Rattle.oci_grammars.specs.Decided.{is_some_of, is_headed}
use Rattle.oci_grammars.specs.declared.uris.Escape.{Escape}
use Rattle.oci_grammars.specs.declared.uris.Escape.TheVariants.{Plain, First, Second, Broken}

abbrev pub next_escape : (ℕ → Bool) → Escape → ℕ → Escape
next_escape class Plain b = if class b then Plain else (if b == 37 then First else Broken)
next_escape class First b = if is_ascii_hexdigit b then Second else Broken
next_escape class Second b = if is_ascii_hexdigit b then Plain else Broken
next_escape class Broken b = Broken

abbrev pub ends_plain : Escape → Bool
ends_plain Plain = true
ends_plain First = false
ends_plain Second = false
ends_plain Broken = false

unfoldable pub is_coded : (ℕ → Bool) → List ℕ → Bool
is_coded class text = ends_plain (fold (next_escape class) Plain text)

unfoldable pub is_future_address : List ℕ → Bool
is_future_address text = is_some_of is_ascii_hexdigit (until dot text) && is_some_of is_user_info_byte (after dot text)

unfoldable pub is_address : List ℕ → Bool
is_address text =
    is_some_of is_address_byte text
    || ((starts_with nat_eq text (codes "v") && is_future_address (drop 1 text)) || (starts_with nat_eq text (codes "V") && is_future_address (drop 1 text)))

unfoldable pub is_port_tail : List ℕ → Bool
is_port_tail text = (length text == 0) || (starts_with nat_eq text (codes ":") && list_all is_ascii_digit (drop 1 text))

unfoldable pub is_literal_port : List ℕ → Bool
is_literal_port text = has 93 text && (is_address (until 93 text) && is_port_tail (after 93 text))

unfoldable pub is_name_port : List ℕ → Bool
is_name_port text = is_coded is_reg_name_byte (until colon text) && (not (has colon text) || list_all is_ascii_digit (after colon text))

unfoldable pub is_host_port : List ℕ → Bool
is_host_port text = (starts_with nat_eq text (codes "[") && is_literal_port (drop 1 text)) || is_name_port text

unfoldable pub is_authority : List ℕ → Bool
is_authority text =
    (not (has at_sign text) && is_host_port text)
    || (has at_sign text && (is_coded is_user_info_byte (until at_sign text) && is_host_port (after at_sign text)))

unfoldable pub is_authority_path : List ℕ → Bool
is_authority_path text = is_authority (until slash text) && (not (has slash text) || is_coded is_path_byte (after slash text))

unfoldable pub is_hier_part : List ℕ → Bool
is_hier_part text =
    (starts_with nat_eq text (codes "//") && is_authority_path (drop 2 text))
    || (is_coded is_path_byte text && not (starts_with nat_eq text (codes "//")))

unfoldable pub is_scheme_path : List ℕ → Bool
is_scheme_path text = has colon text && (is_headed is_ascii_alphabetic is_scheme_byte (until colon text) && is_hier_part (after colon text))

unfoldable pub is_before_fragment : List ℕ → Bool
is_before_fragment text = is_scheme_path (until 63 text) && (not (has 63 text) || is_coded is_query_byte (after 63 text))

unfoldable pub is_uri : List ℕ → Bool
is_uri text = is_before_fragment (until 35 text) && (not (has 35 text) || is_coded is_query_byte (after 35 text))

abbrev pub is_any_case : List ℕ → List ℕ → Bool
is_any_case word text = bytes_eq (map to_ascii_lowercase text) (map to_ascii_lowercase word)

abbrev pub is_word_of : List (List ℕ) → List ℕ → Bool
is_word_of words text = list_any (λ word. is_any_case word text) words

unfoldable pub is_http_uri : List ℕ → Bool
is_http_uri text =
    is_uri text
    && ((is_any_case (codes "http") (until colon text) || is_any_case (codes "https") (until colon text)) && starts_with nat_eq (after colon text) (codes "//"))
