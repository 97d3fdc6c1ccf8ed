-- Licence expressions (SPDX specification 2.3, annex D, with identifiers by their shape), and which of their identifiers are in a list, in any case.
use Rattle.std.specs.Prelude.{ℕ, ◌&&◌, ◌||◌, ◌==◌, ◌⊎◌, ⊤, Bool, true, false, IsTrue, List, [], ◌∷◌, ◌++◌, map, drop, nat_eq, codes, bytes_eq, if◌then◌else◌}
use Rattle.std.specs.List.{starts_with, slice_split, onto_first}
use Rattle.oci_base.specs.Classes.{plus, colon, until, after}
use Rattle.oci_grammars.specs.Classes.{is_id_byte, is_word_byte}
use Rattle.oci_grammars.specs.Decided.{is_some_of, front_in, back_in}
use Rattle.oci_grammars.specs.Uris.{IsWordOf}
use Rattle.oci_grammars.specs.declared.licenses.Kind.{Kind}
use Rattle.oci_grammars.specs.declared.licenses.Kind.TheVariants.{Name, License, Operator, With, OpenMark, CloseMark, NoKind}

-- the text begins with a byte of a word
abbrev pub begins_word : List ℕ → Bool
begins_word [] = false
begins_word (b ∷ text) = is_word_byte b

-- the words of a text, and by itself each other byte but the space
abbrev pub pieces : List ℕ → List (List ℕ)
pieces [] = []
pieces (b ∷ text) =
    if is_word_byte b then (if begins_word text then onto_first b (pieces text) else (b ∷ []) ∷ pieces text)
    else (if b == 32 then pieces text else (b ∷ []) ∷ pieces text)

-- license-ref without its document = "LicenseRef-" idstring
abbrev pub is_license_ref : List ℕ → Bool
is_license_ref word = starts_with nat_eq word (codes "LicenseRef-") && is_some_of is_id_byte (drop 11 word)

-- "DocumentRef-" idstring
abbrev pub is_document_ref : List ℕ → Bool
is_document_ref word = starts_with nat_eq word (codes "DocumentRef-") && is_some_of is_id_byte (drop 12 word)

-- a license-ref with its document
abbrev pub is_other_ref : List ℕ → Bool
is_other_ref word = is_document_ref (until colon word) && is_license_ref (after colon word)

-- license-ref
abbrev pub is_reference : List ℕ → Bool
is_reference word = is_license_ref word || is_other_ref word

-- license-id "+", or a license-ref with its document
abbrev pub is_license : List ℕ → Bool
is_license word = (is_some_of is_id_byte (front_in is_id_byte word) && bytes_eq (back_in is_id_byte word) (codes "+")) || is_other_ref word

-- what a piece is: an operator, `WITH`, a mark, an identifier (idstring), or a licence that is no mere identifier
abbrev pub kind_of : List ℕ → Kind
kind_of piece =
    if bytes_eq piece (codes "AND") || bytes_eq piece (codes "OR") then Operator
    else (if bytes_eq piece (codes "WITH") then With
    else (if bytes_eq piece (codes "(") then OpenMark
    else (if bytes_eq piece (codes ")") then CloseMark
    else (if is_some_of is_id_byte piece then Name else (if is_license piece then License else NoKind)))))

abbrev pub is_named : Kind → Bool
is_named Name = true
is_named License = true
is_named Operator = false
is_named With = false
is_named OpenMark = false
is_named CloseMark = false
is_named NoKind = false

abbrev pub is_identifier : List ℕ → Bool
is_identifier piece = is_named (kind_of piece)

abbrev pub kinds : List ℕ → List Kind
kinds text = map kind_of (pieces text)

-- simple-expression: an identifier, or another licence
pub data IsSimple : Kind → Type 0 where
  name : IsSimple Name
  license : IsSimple License

-- a simple-expression, with an exception or without; an expression in parentheses; or two with `AND` or `OR` between
pub data IsExpression : List Kind → Type 0 where
  simple : (k : Kind) → IsSimple k → IsExpression (k ∷ [])
  excepted : (k : Kind) → IsSimple k → IsExpression (k ∷ With ∷ Name ∷ [])
  wrapped : (e : List Kind) → IsExpression e → IsExpression (OpenMark ∷ (e ++ CloseMark ∷ []))
  joined : (e f : List Kind) → IsExpression e → IsExpression f → IsExpression (e ++ Operator ∷ f)

-- license-expression
abbrev pub IsSpdxExpression : List ℕ → Type 0
IsSpdxExpression text = IsExpression (kinds text)

-- ---- listed identifiers

-- the words of a list, joined by spaces
abbrev pub words_in : List ℕ → List (List ℕ)
words_in list = slice_split (λ b. b == 32) list

-- behind `WITH`, one of the exceptions; else a license-ref, or one of the licences, with "+" or without, where it is an identifier at all
abbrev pub IsListed : List (List ℕ) → List (List ℕ) → Bool → List ℕ → Type 0
IsListed licenses exceptions true word = IsWordOf exceptions word
IsListed licenses exceptions false word = IsTrue (is_identifier word) → IsTrue (is_reference word) ⊎ IsWordOf licenses (until plus word)

abbrev pub AreListed : List (List ℕ) → List (List ℕ) → Bool → List (List ℕ) → Type 0
AreListed licenses exceptions behind_with [] = ⊤
AreListed licenses exceptions behind_with (word ∷ words) = IsListed licenses exceptions behind_with word × AreListed licenses exceptions (bytes_eq word (codes "WITH")) words

-- of an expression, each licence is one of these, and each exception one of those
abbrev pub HasListed : List (List ℕ) → List (List ℕ) → List ℕ → Type 0
HasListed licenses exceptions text = IsSpdxExpression text → AreListed licenses exceptions false (pieces text)
