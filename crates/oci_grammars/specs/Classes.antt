-- Classes of ASCII bytes that the grammars name, beside those of `oci_base`.
use Rattle.std.specs.Prelude.{ℕ, ◌||◌, ◌&&◌, ◌==◌, not, Bool, codes}
use Rattle.std.specs.Char.{is_ascii_digit, is_ascii_alphabetic, is_ascii_alphanumeric, is_ascii_uppercase, is_ascii_graphic, is_ascii_hexdigit}
use Rattle.std.specs.Int.{is_in_range}
use Rattle.oci_base.specs.Classes.{dash, dot, slash, colon, underscore, has, is_word, is_host_byte, is_tag_byte}
use Rattle.oci_grammars.specs.declared.classes.Class.{Class}
use Rattle.oci_grammars.specs.declared.classes.Class.TheVariants.{Digit, Positive, Hex, Letter, LetterOrDigit, Capital, CapitalOrDigit, Capability, NameStart, Word, Label, Host, Tag, Restricted, Scheme, RegName, UserInfo, Path, Query, Address, Base64, IdByte, LicenseWord, Access, Scale, Context, Graphic, Interface, Separator, Share, RefName, FileStart, NotSlash, NotColon, NotEquals, NotNul, NotLineFeed}

-- 1 to 9
abbrev pub is_positive : ℕ → Bool
is_positive b = is_in_range 49 57 b

abbrev pub is_capital_or_digit : ℕ → Bool
is_capital_or_digit b = is_ascii_uppercase b || is_ascii_digit b

abbrev pub hash : ℕ
hash = 35

-- the first byte of a name (POSIX, XBD 3.235, "Name")
abbrev pub is_name_start : ℕ → Bool
is_name_start b = is_ascii_alphabetic b || (b == underscore)

-- [A-Za-z0-9_-]
abbrev pub is_label_byte : ℕ → Bool
is_label_byte b = is_word b || (b == dash)

-- restricted-name-chars (RFC 6838, section 4.2)
abbrev pub is_restricted_byte : ℕ → Bool
is_restricted_byte b = is_ascii_alphanumeric b || has b (codes "!#$&-^_.+")

-- the bytes behind a scheme's letter (RFC 3986, section 3.1)
abbrev pub is_scheme_byte : ℕ → Bool
is_scheme_byte b = is_ascii_alphanumeric b || has b (codes "+-.")

-- unreserved / sub-delims (RFC 3986, section 2), the bytes of a registered name that are not percent-encoded
abbrev pub is_reg_name_byte : ℕ → Bool
is_reg_name_byte b = is_ascii_alphanumeric b || has b (codes "-._~!$&'()*+,;=")

-- those and ":", the bytes of user information that are not percent-encoded (RFC 3986, section 3.2.1)
abbrev pub is_user_info_byte : ℕ → Bool
is_user_info_byte b = is_reg_name_byte b || (b == colon)

-- pchar / "/" (RFC 3986, section 3.3)
abbrev pub is_path_byte : ℕ → Bool
is_path_byte b = is_user_info_byte b || has b (codes "@/")

-- pchar / "/" / "?" (RFC 3986, sections 3.4 and 3.5)
abbrev pub is_query_byte : ℕ → Bool
is_query_byte b = is_path_byte b || (b == 63)

-- the bytes of an IPv6 address
abbrev pub is_address_byte : ℕ → Bool
is_address_byte b = is_ascii_hexdigit b || has b (codes ":.")

-- the base64 alphabet without the padding (RFC 4648, section 4)
abbrev pub is_base64_byte : ℕ → Bool
is_base64_byte b = is_ascii_alphanumeric b || has b (codes "+/")

-- graphic ASCII without ":"
abbrev pub is_context_byte : ℕ → Bool
is_context_byte b = is_ascii_graphic b && not (b == colon)

-- no "/", no ":", not 0, and no white space as Linux's isspace has it: 9 to 13, 32 and 160
abbrev pub is_interface_byte : ℕ → Bool
is_interface_byte b = not (has b (codes "/: ") || is_in_range 9 13 b || (b == 0) || (b == 160))

-- [A-Z_]
abbrev pub is_capability_byte : ℕ → Bool
is_capability_byte b = is_ascii_uppercase b || (b == underscore)

-- idstring (SPDX specification 2.3, annex D)
abbrev pub is_id_byte : ℕ → Bool
is_id_byte b = is_ascii_alphanumeric b || has b (codes "-.")

-- a byte of a word of an SPDX expression
abbrev pub is_word_byte : ℕ → Bool
is_word_byte b = is_id_byte b || has b (codes "+:")

-- r, w or m
abbrev pub is_access_byte : ℕ → Bool
is_access_byte b = has b (codes "rwm")

-- K, M, G or T, in any case
abbrev pub is_scale : ℕ → Bool
is_scale b = has b (codes "KMGTkmgt")

-- what separates the parts of a path of Windows
abbrev pub is_path_separator : ℕ → Bool
is_path_separator b = (b == 92) || (b == slash)

-- a byte of a server's or a share's name
abbrev pub is_share_byte : ℕ → Bool
is_share_byte b = not (is_path_separator b) && not (b == 0)

-- [A-Za-z0-9] and -._:@/+ (image specification, "Pre-Defined Annotation Keys", `org.opencontainers.image.ref.name`)
abbrev pub is_ref_name_byte : ℕ → Bool
is_ref_name_byte b = is_ascii_alphanumeric b || has b (codes "-._:@/+")

abbrev pub is_file_start : ℕ → Bool
is_file_start b = not (b == slash) && not (b == dot)

abbrev pub is_not_slash : ℕ → Bool
is_not_slash b = not (b == slash)

abbrev pub is_not_colon : ℕ → Bool
is_not_colon b = not (b == colon)

abbrev pub is_not_equals : ℕ → Bool
is_not_equals b = not (b == 61)

abbrev pub is_not_nul : ℕ → Bool
is_not_nul b = not (b == 0)

abbrev pub is_not_line_feed : ℕ → Bool
is_not_line_feed b = not (b == 10)

-- the class of a name
abbrev pub class_of : Class → ℕ → Bool
class_of Digit b = is_ascii_digit b
class_of Positive b = is_positive b
class_of Hex b = is_ascii_hexdigit b
class_of Letter b = is_ascii_alphabetic b
class_of LetterOrDigit b = is_ascii_alphanumeric b
class_of Capital b = is_ascii_uppercase b
class_of CapitalOrDigit b = is_capital_or_digit b
class_of Capability b = is_capability_byte b
class_of NameStart b = is_name_start b
class_of Word b = is_word b
class_of Label b = is_label_byte b
class_of Host b = is_host_byte b
class_of Tag b = is_tag_byte b
class_of Restricted b = is_restricted_byte b
class_of Scheme b = is_scheme_byte b
class_of RegName b = is_reg_name_byte b
class_of UserInfo b = is_user_info_byte b
class_of Path b = is_path_byte b
class_of Query b = is_query_byte b
class_of Address b = is_address_byte b
class_of Base64 b = is_base64_byte b
class_of IdByte b = is_id_byte b
class_of LicenseWord b = is_word_byte b
class_of Access b = is_access_byte b
class_of Scale b = is_scale b
class_of Context b = is_context_byte b
class_of Graphic b = is_ascii_graphic b
class_of Interface b = is_interface_byte b
class_of Separator b = is_path_separator b
class_of Share b = is_share_byte b
class_of RefName b = is_ref_name_byte b
class_of FileStart b = is_file_start b
class_of NotSlash b = is_not_slash b
class_of NotColon b = is_not_colon b
class_of NotEquals b = is_not_equals b
class_of NotNul b = is_not_nul b
class_of NotLineFeed b = is_not_line_feed b
