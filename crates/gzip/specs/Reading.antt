-- What a decoder reads of a file, piece by piece (RFC 1952, 2.3). In each of these the bytes are those of the piece, and then rest.
use Rattle.std.specs.Prelude.{◌≡◌, ℕ, ◌%◌, ◌^◌, ◌<◌, Bool, true, false, List, [], ◌∷◌, ◌++◌, length, Option, Some, None, IfSome}
use Rattle.std.specs.Int.{w16, to_le_bytes}
use Rattle.crc32.specs.Step.{crc32}
use Rattle.deflate.specs.Bits.{bits_of, AreBelow}
use Rattle.inflate.specs.Hand.{stream}
use Rattle.inflate.specs.declared.bits.Bits.{Bits}
use Rattle.gzip.specs.Gzip.{Header, IsHeader, IsText, header_bytes, text_field, extra_field}

-- these bytes are left, and no part of one is at hand
pub record IsLeft (left : Option (List ℕ)) (hand : Bits) (bytes : List ℕ) : Type 0 where
  pub below : AreBelow 256 bytes
  pub begins : stream left hand ≡ Some (bits_of bytes)

-- ID1, ID2, CM and FLG
pub record IsStart (bytes rest : List ℕ) (flags : ℕ) : Type 0 where
  pub small : flags < 32
  pub begins : bytes ≡ 31 ∷ 139 ∷ 8 ∷ flags ∷ rest

-- so many bytes
pub record IsPiece (bytes piece rest : List ℕ) (count : ℕ) : Type 0 where
  pub count_is : length piece ≡ count
  pub begins : bytes ≡ piece ++ rest

-- a text and the byte 0 behind it
pub record IsTextPiece (bytes piece rest : List ℕ) : Type 0 where
  pub text : List ℕ
  pub is : IsText text
  pub piece_is : piece ≡ text ++ 0 ∷ []
  pub begins : bytes ≡ piece ++ rest

-- the flag says whether there is a field
abbrev pub IsThere : Bool → Option (List ℕ) → Type 0
IsThere true None = ⊥
IsThere true (Some bytes) = Unit {0}
IsThere false None = Unit {0}
IsThere false (Some bytes) = ⊥

-- such a field, or nothing where there is none
pub record IsTextField (is_there : Bool) (bytes piece rest : List ℕ) : Type 0 where
  pub field : Option (List ℕ)
  pub there : IsThere is_there field
  pub is : IfSome field IsText
  pub piece_is : piece ≡ text_field field
  pub begins : bytes ≡ piece ++ rest

pub record IsExtraField (is_there : Bool) (bytes piece rest : List ℕ) : Type 0 where
  pub field : Option (List ℕ)
  pub there : IsThere is_there field
  pub is : IfSome field (λ content. AreBelow 256 content × (length content < 65536))
  pub piece_is : piece ≡ extra_field field
  pub begins : bytes ≡ piece ++ rest

-- CRC16 of what came before, where it is there
abbrev pub IsChecksum : Bool → List ℕ → List ℕ → List ℕ → Type 0
IsChecksum true before bytes rest = bytes ≡ to_le_bytes w16 (crc32 before % 2 ^ 16) ++ rest
IsChecksum false before bytes rest = bytes ≡ rest

-- a header
pub record IsHead (bytes rest : List ℕ) : Type 0 where
  pub header : Header
  pub is : IsHeader header
  pub begins : bytes ≡ header_bytes header ++ rest

-- no byte is left, or some are
abbrev pub IsEnd : Bool → List ℕ → Type 0
IsEnd true bytes = bytes ≡ []
IsEnd false bytes = 0 < length bytes
