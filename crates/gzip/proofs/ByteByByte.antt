-- Bytes, one by one.
use Rattle.std.proofs.Common.{◌≡◌, ℕ, zero, suc, ◌+◌, ◌^◌, ◌<◌, List, [], ◌∷◌, ◌++◌, length, get_or, Option, Some, refl, sym, ap, ◌∙◌, subst, arith}
use Rattle.std.proofs.lemmas.List.{append_assoc, length-append, append-nil}
use Rattle.std.proofs.lemmas.Nat.{le_bytes_2, le_bytes_4}
use Rattle.std.specs.Int.{w16, w32, from_le_bytes, to_le_bytes}
use Rattle.deflate.specs.Bits.{bits, bits_of, numbers, AreBelow}
use Rattle.deflate.proofs.Packing.{length-bits}
use Rattle.deflate.proofs.Unique.{one_number}
use Rattle.deflate.proofs.UniqueBlocks.{length-numbers}
use Rattle.inflate.specs.Hand.{stream}
use Rattle.inflate.specs.declared.bits.Bits.{Bits}
use Rattle.inflate.proofs.Streams.{IsRead}
use Rattle.gzip.specs.Gzip.{IsText}
use Rattle.gzip.specs.Reading.{IsLeft, IsPiece, IsTextPiece}

-- the first byte
pub record BeginsWith (b : ℕ) (bytes ys : List ℕ) : Type 0 where
  pub rest : List ℕ
  pub bytes_are : bytes ≡ b ∷ rest
  pub below : AreBelow 256 rest
  pub bits_are : ys ≡ bits_of rest

pub byte_front : (v : ℕ) (bytes ys : List ℕ) → AreBelow 256 bytes → v < 2 ^ 8 → bits_of bytes ≡ bits 8 v ++ ys → BeginsWith v bytes ys
unfolding numbers AreBelow
byte_front v [] ys below lt e =
    let w : 0 ≡ length (bits 8 v) + length ys = ap length e ∙ length-append (bits 8 v) ys in
    absurd (omega (arith, w, length-bits 8 v))
byte_front v (b ∷ bytes) ys below lt e =
    let s : (v ≡ b) × (ys ≡ bits_of bytes) = one_number 8 8 v b ys (bits_of bytes) refl lt below.0 (sym e) in
    record { rest = bytes; bytes_are = ap (λ t. t ∷ bytes) (sym s.0); below = below.1; bits_are = s.1 }

pub byte_read : (v : ℕ) (left : Option (List ℕ)) (hand : Bits) (bytes : List ℕ) → AreBelow 256 bytes → v < 2 ^ 8 → IsRead (stream left hand) (bits 8 v) (bits_of bytes)
    → (rest : List ℕ) × (bytes ≡ v ∷ rest) × IsLeft left hand rest
byte_read v left hand bytes below lt q =
    let b : BeginsWith v bytes q.rest = byte_front v bytes q.rest below lt q.begins in
    (b.rest, b.bytes_are, record { below = b.below; begins = q.now ∙ ap Some b.bits_are })

pub no_byte : (bytes : List ℕ) → length (bits_of bytes) < 8 → bytes ≡ []
no_byte [] lt = refl
no_byte (b ∷ bytes) lt = absurd (omega (arith, lt, length-numbers 8 (b ∷ bytes)))

-- a piece, byte by byte
pub piece_none : (bytes : List ℕ) → IsPiece bytes [] bytes 0
piece_none bytes = record { count_is = refl; begins = refl }

pub piece_more : (bytes piece ys zs : List ℕ) (n b : ℕ) → IsPiece bytes piece ys n → ys ≡ b ∷ zs → IsPiece bytes (piece ++ b ∷ []) zs (n + 1)
piece_more bytes piece ys zs n b h e = record {
  count_is = length-append piece (b ∷ []) ∙ omega (arith, h.count_is);
  begins = h.begins ∙ ap (λ u. piece ++ u) e ∙ sym (append_assoc piece (b ∷ []) zs);
}

pub piece_cut : (bytes piece ys : List ℕ) (n count : ℕ) → IsPiece bytes piece ys n → n < count → ys ≡ [] → length bytes < count
piece_cut bytes piece ys n count h lt e =
    let w : length bytes ≡ length piece + length ys = ap length h.begins ∙ length-append piece ys in
    omega (arith, w, lt, h.count_is, ap length e)

pub no_piece : (bytes piece rest : List ℕ) (count : ℕ) → length bytes < count → IsPiece bytes piece rest count → ⊥
no_piece bytes piece rest count lt h =
    let w : length bytes ≡ length piece + length rest = ap length h.begins ∙ length-append piece rest in
    omega (arith, w, lt, h.count_is)

-- a text, byte by byte
pub record IsTextSoFar (bytes piece rest : List ℕ) : Type 0 where
  pub is : IsText piece
  pub begins : bytes ≡ piece ++ rest

pub text_none : (bytes : List ℕ) → IsTextSoFar bytes [] bytes
unfolding IsText
text_none bytes = record { is = tt; begins = refl }

text_push : (text : List ℕ) (b : ℕ) → 0 < b → b < 256 → IsText text → IsText (text ++ b ∷ [])
unfolding IsText
text_push [] b pos lt h = (pos, lt, tt)
text_push (c ∷ text) b pos lt h = (h.0, h.1, text_push text b pos lt h.2)

pub text_more : (bytes piece ys zs : List ℕ) (b : ℕ) → 0 < b → b < 256 → IsTextSoFar bytes piece ys → ys ≡ b ∷ zs → IsTextSoFar bytes (piece ++ b ∷ []) zs
text_more bytes piece ys zs b pos lt h e = record {
  is = text_push piece b pos lt h.is;
  begins = h.begins ∙ ap (λ u. piece ++ u) e ∙ sym (append_assoc piece (b ∷ []) zs);
}

pub text_end : (bytes piece ys zs : List ℕ) (b : ℕ) → b ≡ 0 → IsTextSoFar bytes piece ys → ys ≡ b ∷ zs → IsTextPiece bytes (piece ++ b ∷ []) zs
text_end bytes piece ys zs b z h e = record {
  text = piece;
  is = h.is;
  piece_is = ap (λ u. piece ++ u ∷ []) z;
  begins = h.begins ∙ ap (λ u. piece ++ u) e ∙ sym (append_assoc piece (b ∷ []) zs);
}

-- one text is in front, up to its end
text_front : (s t x y : List ℕ) → IsText s → IsText t → s ++ 0 ∷ x ≡ t ++ 0 ∷ y → (s ≡ t) × (x ≡ y)
unfolding IsText
text_front [] [] x y h k e = (refl, let q : x ≡ y = cc in q)
text_front [] (b ∷ t) x y h k e = let q : 0 ≡ b = cc in absurd (omega (arith, q, k.0))
text_front (a ∷ s) [] x y h k e = let q : a ≡ 0 = cc in absurd (omega (arith, q, h.0))
text_front (a ∷ s) (b ∷ t) x y h k e =
    let q : a ≡ b = cc in
    let r : s ++ 0 ∷ x ≡ t ++ 0 ∷ y = cc in
    let o : (s ≡ t) × (x ≡ y) = text_front s t x y h.2 k.2 r in
    (ap (λ v. v ∷ s) q ∙ ap (λ v. b ∷ v) o.0, o.1)

pub text_whole : (bytes piece rest : List ℕ) → (h : IsTextPiece bytes piece rest) → bytes ≡ h.text ++ 0 ∷ rest
text_whole bytes piece rest h = h.begins ∙ ap (λ u. u ++ rest) h.piece_is ∙ append_assoc h.text (0 ∷ []) rest

pub one_text_piece : (bytes p q x y : List ℕ) → IsTextPiece bytes p x → IsTextPiece bytes q y → (p ≡ q) × (x ≡ y)
one_text_piece bytes p q x y h k =
    let s : (h.text ≡ k.text) × (x ≡ y) = text_front h.text k.text x y h.is k.is (sym (text_whole bytes p x h) ∙ text_whole bytes q y k) in
    (h.piece_is ∙ ap (λ t. t ++ 0 ∷ []) s.0 ∙ sym k.piece_is, s.1)

-- a text that is cut has no end
text_cut_at : (s t y : List ℕ) → IsText s → IsText t → s ≡ t ++ 0 ∷ y → ⊥
unfolding IsText
text_cut_at [] [] y h k e = cc
text_cut_at [] (b ∷ t) y h k e = cc
text_cut_at (a ∷ s) [] y h k e = let q : a ≡ 0 = cc in omega (arith, q, h.0)
text_cut_at (a ∷ s) (b ∷ t) y h k e = let r : s ≡ t ++ 0 ∷ y = cc in text_cut_at s t y h.2 k.2 r

pub text_cut : (bytes piece ys p rest : List ℕ) → IsTextSoFar bytes piece ys → ys ≡ [] → IsTextPiece bytes p rest → ⊥
text_cut bytes piece ys p rest h e k =
    let w : bytes ≡ piece = h.begins ∙ ap (λ u. piece ++ u) e ∙ append-nil piece in
    text_cut_at piece k.text rest h.is k.is (sym w ∙ text_whole bytes p rest k)

-- numbers of two and of four bytes
pub small_two : (a b : ℕ) → a < 256 → b < 256 → (i : ℕ) → get_or (a ∷ b ∷ []) i 0 < 256
small_two a b p q zero = p
small_two a b p q (suc zero) = q
small_two a b p q (suc (suc i)) = omega arith

small_four : (a b c d : ℕ) → a < 256 → b < 256 → c < 256 → d < 256 → (i : ℕ) → get_or (a ∷ b ∷ c ∷ d ∷ []) i 0 < 256
small_four a b c d p q r s zero = p
small_four a b c d p q r s (suc zero) = q
small_four a b c d p q r s (suc (suc zero)) = r
small_four a b c d p q r s (suc (suc (suc zero))) = s
small_four a b c d p q r s (suc (suc (suc (suc i)))) = omega arith

pub two_read : (bytes r rest : List ℕ) (a b n : ℕ) → AreBelow 256 bytes → bytes ≡ a ∷ r → r ≡ b ∷ rest → n ≡ from_le_bytes w16 (a ∷ b ∷ []) → bytes ≡ to_le_bytes w16 n ++ rest
unfolding AreBelow
two_read bytes r rest a b n below e f is =
    let all : bytes ≡ a ∷ b ∷ rest = e ∙ ap (λ u. a ∷ u) f in
    let h : AreBelow 256 (a ∷ b ∷ rest) = subst (AreBelow 256) all below in
    let small : (i : ℕ) → get_or (a ∷ b ∷ []) i 0 < 256 = small_two a b h.0 h.1.0 in
    all ∙ ap (λ u. u ++ rest) (sym (le_bytes_2 (a ∷ b ∷ []) n refl small is))

pub four_read : (bytes q r s rest : List ℕ) (a b c d n : ℕ) → AreBelow 256 bytes → bytes ≡ a ∷ q → q ≡ b ∷ r → r ≡ c ∷ s → s ≡ d ∷ rest
    → n ≡ from_le_bytes w32 (a ∷ b ∷ c ∷ d ∷ []) → bytes ≡ to_le_bytes w32 n ++ rest
unfolding AreBelow
four_read bytes q r s rest a b c d n below e f g i is =
    let all : bytes ≡ a ∷ b ∷ c ∷ d ∷ rest = e ∙ ap (λ u. a ∷ u) (f ∙ ap (λ u. b ∷ u) (g ∙ ap (λ u. c ∷ u) i)) in
    let h : AreBelow 256 (a ∷ b ∷ c ∷ d ∷ rest) = subst (AreBelow 256) all below in
    let small : (i : ℕ) → get_or (a ∷ b ∷ c ∷ d ∷ []) i 0 < 256 = small_four a b c d h.0 h.1.0 h.1.1.0 h.1.1.1.0 in
    all ∙ ap (λ u. u ++ rest) (sym (le_bytes_4 (a ∷ b ∷ c ∷ d ∷ []) n refl small is))
