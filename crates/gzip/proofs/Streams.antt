-- A stream ends in some byte, and whole bytes follow.
use Rattle.std.proofs.Common.{◌≡◌, ℕ, zero, suc, ◌+◌, ◌-◌, ◌*◌, ◌/◌, ◌%◌, List, [], ◌∷◌, ◌++◌, length, take, drop, Option, Some, refl, sym, ap, ◌∙◌, subst, arith}
use Rattle.std.proofs.lemmas.List.{append_assoc, length-append, length-take-le, take-append-drop}
use Rattle.deflate.specs.Bits.{bits, bits_of, AreBelow}
use Rattle.deflate.specs.Deflate.{Block, block_bits, text_after_block, AreBlocks, Denotes}
use Rattle.deflate.proofs.Packing.{bits_of-append}
use Rattle.deflate.proofs.Unique.{same_fronts}
use Rattle.deflate.proofs.UniqueBlocks.{length-numbers}
use Rattle.inflate.specs.Hand.{stream}
use Rattle.inflate.specs.declared.bits.Bits.{Bits}
use Rattle.inflate.specs.Reading.{IsBlocks}
use Rattle.inflate.proofs.Streams.{IsRead}
use Rattle.gzip.specs.Reading.{IsLeft}

-- what follows blocks is an end of the stream
pub record EndsWith (xs rest : List ℕ) : Type 0 where
  pub front : List ℕ
  pub begins : xs ≡ front ++ rest

pub ends_with : (p : ℕ) (xs t new rest : List ℕ) (blocks : List Block) → AreBlocks p xs t blocks new rest → EndsWith xs rest
unfolding AreBlocks
ends_with p xs t new rest [] are = absurd are
ends_with p xs t new rest (b ∷ []) are = record { front = bits 1 1 ++ block_bits b; begins = are.1 }
ends_with p xs t new rest (b ∷ c ∷ blocks) are =
    let e : EndsWith are.0 rest = ends_with (p + 1 + length (block_bits b)) are.0 (text_after_block t b) new rest (c ∷ blocks) are.3 in
    let front = bits 1 0 ++ block_bits b in
    record { front = front ++ e.front; begins = are.2 ∙ ap (λ u. front ++ u) e.begins ∙ sym (append_assoc front e.front rest) }

-- an end of whole bytes is their end
pub whole_end : (bytes front zs : List ℕ) (k : ℕ) → bits_of bytes ≡ front ++ zs → length zs ≡ 8 * k → zs ≡ bits_of (drop (length bytes - k) bytes)
whole_end bytes front zs k e is =
    let n = length bytes - k in
    let all : length (bits_of bytes) ≡ length front + length zs = ap length e ∙ length-append front zs in
    let eight : length (bits_of bytes) ≡ 8 * length bytes = length-numbers 8 bytes in
    let head = bits_of (take n bytes) in
    let tail = bits_of (drop n bytes) in
    let parts : head ++ tail ≡ front ++ zs = sym (bits_of-append (take n bytes) (drop n bytes)) ∙ ap bits_of (take-append-drop n bytes) ∙ e in
    let head_len : length head ≡ 8 * n = length-numbers 8 (take n bytes) ∙ ap (λ m. 8 * m) (length-take-le n bytes (omega arith)) in
    let s : (head ≡ front) × (tail ≡ zs) = same_fronts head front tail zs (omega (arith, head_len, all, eight, is)) parts in
    sym s.1

below_drop : (m n : ℕ) (bytes : List ℕ) → AreBelow m bytes → AreBelow m (drop n bytes)
unfolding AreBelow
below_drop m zero bytes h = h
below_drop m (suc n) [] h = tt
below_drop m (suc n) (b ∷ bytes) h = below_drop m n bytes h.1

-- the bytes behind a stream that was read
pub record IsDenoted (bytes text : List ℕ) (left : Option (List ℕ)) (hand : Bits) : Type 0 where
  pub rest : List ℕ
  pub denotes : Denotes bytes text rest
  pub left_is : IsLeft left hand rest

pub denoted : (bytes ys padding text : List ℕ) (left : Option (List ℕ)) (hand : Bits) → AreBelow 256 bytes → IsBlocks 0 (bits_of bytes) [] ys text
    → length padding ≡ length ys % 8 → IsRead (stream left hand) padding ys → IsDenoted bytes text left hand
denoted bytes ys padding text left hand below b odd q =
    let e : EndsWith (bits_of bytes) ys = ends_with 0 (bits_of bytes) [] text ys b.blocks b.are in
    let zs = q.rest in
    let begins : bits_of bytes ≡ (e.front ++ padding) ++ zs = e.begins ∙ ap (λ u. e.front ++ u) q.begins ∙ sym (append_assoc e.front padding zs) in
    let len : length ys ≡ length padding + length zs = ap length q.begins ∙ length-append padding zs in
    let k = length zs / 8 in
    let whole : length zs ≡ 8 * k = omega (arith, len, odd) in
    let n = length bytes - k in
    let rest = drop n bytes in
    let same : zs ≡ bits_of rest = whole_end bytes (e.front ++ padding) zs k begins whole in
    record {
      rest = rest;
      denotes = (b.blocks, padding, n, subst (λ u. AreBlocks 0 (bits_of bytes) [] b.blocks text u) (q.begins ∙ ap (λ u. padding ++ u) same) b.are, omega (arith, odd), refl);
      left_is = record { below = below_drop 256 n bytes below; begins = q.now ∙ ap Some same };
    }
