-- Members, one by one.
use Rattle.std.proofs.Common.{◌≡◌, ℕ, ◌+◌, ◌%◌, ◌^◌, ◌<◌, ◌≤◌, ◌⊎◌, ⊎_elim, inl, inr, ◌↔◌, Bool, true, false, IsTrue, List, [], ◌∷◌, ◌++◌, length, Option, Some, refl, sym, ap, ◌∙◌, subst, arith}
use Rattle.std.proofs.lemmas.List.{append_assoc, length-append, append-nil}
use Rattle.std.proofs.lemmas.Nat.{from_le_bytes-to_le_bytes_4}
use Rattle.std.specs.Int.{w32, to_le_bytes, from_le_bytes}
use Rattle.std.specs.Io.KnownBytes.{Keeps, IsAtEnd}
use Rattle.crc32.specs.Step.{crc32}
use Rattle.deflate.specs.Bits.{bits, bits_of, AreBelow}
use Rattle.deflate.specs.Deflate.{Denotes}
use Rattle.deflate.proofs.Packing.{length-bits}
use Rattle.deflate.proofs.Unique.{same_fronts}
use Rattle.deflate.proofs.UniqueBlocks.{one_text, length-numbers}
use Rattle.inflate.specs.Hand.{held, stream}
use Rattle.inflate.specs.declared.bits.Bits.{Bits}
use Rattle.inflate.proofs.Streams.{IsStream, stream_parts, kept_at, end_bits}
use Rattle.gzip.specs.Gzip.{trailer, IsMember, AreMembers, joined, IsGzip}
use Rattle.gzip.specs.Reading.{IsLeft, IsHead, IsEnd}
use Rattle.gzip.proofs.ByteByByte.{no_byte}
use Rattle.gzip.proofs.Behind.{one_head, one_member, no_member, first_of}

-- the end of the bytes
is_end : (b : Bool) (a left : Option (List ℕ)) (hand : Bits) (bytes : List ℕ) → IsTrue b ↔ (hand.count ≡ 0) → Keeps a (stream left hand) → (56 ≤ hand.count) ⊎ IsAtEnd left
    → a ≡ Some (bits_of bytes) → IsEnd b bytes
is_end true a left hand bytes is k enough e =
    let none : hand.count ≡ 0 = is.0 refl in
    ⊎_elim
    (λ (h : 56 ≤ hand.count). absurd (omega (arith, h, none)))
    (λ (h : IsAtEnd left).
    let w : length (bits_of bytes) ≡ hand.count = ap length (end_bits a left hand (bits_of bytes) k h e) ∙ length-bits hand.count hand.value in
    no_byte bytes (omega (arith, w, none)))
    enough
is_end false a left hand bytes is k enough e =
    let q : IsStream left hand (bits_of bytes) = stream_parts left hand (bits_of bytes) (kept_at a (stream left hand) (bits_of bytes) k e) in
    let w : length (bits_of bytes) ≡ length (held hand) + length (bits_of q.bytes) = ap length q.begins ∙ length-append (held hand) (bits_of q.bytes) in
    let some : hand.count ≡ 0 → ⊥ = λ z. let yes : false ≡ true = is.1 z in (let no : ⊥ = cc in no) in
    omega (arith, w, length-bits hand.count hand.value, length-numbers 8 bytes, some)

pub at_end : (b : Bool) (a left : Option (List ℕ)) (hand : Bits) (bytes : List ℕ) → IsTrue b ↔ (hand.count ≡ 0) → Keeps a (stream left hand) → (56 ≤ hand.count) ⊎ IsAtEnd left
    → a ≡ Some (bits_of bytes) → AreBelow 256 bytes → IsLeft left hand bytes × IsEnd b bytes
at_end b a left hand bytes is k enough e below =
    (record { below = below; begins = kept_at a (stream left hand) (bits_of bytes) k e }, is_end b a left hand bytes is k enough e)

-- before the first bit
pub none_read : (left : Option (List ℕ)) (hand : Bits) (bytes : List ℕ) → AreBelow 256 bytes → left ≡ Some bytes → hand.count ≡ 0 → IsLeft left hand bytes
unfolding bits
none_read left hand bytes below e none =
    let h : held hand ≡ [] = ap (λ n. bits n hand.value) none in
    record { below = below; begins = ap (λ l. stream l hand) e ∙ ap (λ u. Some (u ++ bits_of bytes)) h }

-- the end of a member
pub trailer_read : (bytes a rest t : List ℕ) (n m : ℕ) → n ≡ crc32 t → m ≡ length t % 2 ^ 32 → bytes ≡ to_le_bytes w32 n ++ a → a ≡ to_le_bytes w32 m ++ rest → bytes ≡ trailer t ++ rest
trailer_read bytes a rest t n m sum size e f =
    let one = to_le_bytes w32 (crc32 t) in
    e ∙ ap (λ v. to_le_bytes w32 v ++ a) sum ∙ ap (λ u. one ++ u) (f ∙ ap (λ v. to_le_bytes w32 v ++ rest) size)
    ∙ sym (append_assoc one (to_le_bytes w32 (length t % 2 ^ 32)) rest)

pub trailer_cut : (bytes rest t : List ℕ) → length bytes < 8 → bytes ≡ trailer t ++ rest → ⊥
trailer_cut bytes rest t lt e =
    let eight : length (trailer t) ≡ 8 = refl in
    let w : length bytes ≡ length (trailer t) + length rest = ap length e ∙ length-append (trailer t) rest in
    omega (arith, w, lt, eight)

pub four_long : (bytes a : List ℕ) (n : ℕ) → bytes ≡ to_le_bytes w32 n ++ a → length bytes ≡ 4 + length a
four_long bytes a n e =
    let four : length (to_le_bytes w32 n) ≡ 4 = refl in
    let w : length bytes ≡ length (to_le_bytes w32 n) + length a = ap length e ∙ length-append (to_le_bytes w32 n) a in
    omega (arith, w, four)

-- the sum that stands there, and what follows it
pub other_sum : (bytes a rest t : List ℕ) (n : ℕ) → n < 2 ^ 32 → crc32 t < 2 ^ 32 → bytes ≡ to_le_bytes w32 n ++ a → bytes ≡ trailer t ++ rest
    → (n ≡ crc32 t) × (a ≡ to_le_bytes w32 (length t % 2 ^ 32) ++ rest)
other_sum bytes a rest t n n_lt c_lt e f =
    let one = to_le_bytes w32 (crc32 t) in
    let two = to_le_bytes w32 (length t % 2 ^ 32) in
    let s : (to_le_bytes w32 n ≡ one) × (a ≡ two ++ rest) = same_fronts (to_le_bytes w32 n) one a (two ++ rest) refl (sym e ∙ f ∙ append_assoc one two rest) in
    (sym (from_le_bytes-to_le_bytes_4 n n_lt) ∙ ap (from_le_bytes w32) s.0 ∙ from_le_bytes-to_le_bytes_4 (crc32 t) c_lt, s.1)

pub other_size : (a b rest : List ℕ) (n m : ℕ) → n < 2 ^ 32 → m < 2 ^ 32 → a ≡ to_le_bytes w32 n ++ b → a ≡ to_le_bytes w32 m ++ rest → n ≡ m
other_size a b rest n m n_lt m_lt e f =
    let s : (to_le_bytes w32 n ≡ to_le_bytes w32 m) × (b ≡ rest) = same_fronts (to_le_bytes w32 n) (to_le_bytes w32 m) b rest refl (sym e ∙ f) in
    sym (from_le_bytes-to_le_bytes_4 n n_lt) ∙ ap (from_le_bytes w32) s.0 ∙ from_le_bytes-to_le_bytes_4 m m_lt

-- a member is made of its parts
pub make_member : (bytes r s text rest : List ℕ) → IsHead bytes r → Denotes r text s → s ≡ trailer text ++ rest → IsMember bytes text rest
make_member bytes r s text rest h d e = (h.header, r, h.is, h.begins, subst (Denotes r text) e d)

pub head_of : (bytes text rest : List ℕ) → (m : IsMember bytes text rest) → IsHead bytes m.1
head_of bytes text rest m = record { header = m.0; is = m.2; begins = m.3 }

pub behind_head : (bytes r text rest : List ℕ) → IsHead bytes r → IsMember bytes text rest → Denotes r text (trailer text ++ rest)
behind_head bytes r text rest h m = subst (λ v. Denotes v text (trailer text ++ rest)) (one_head bytes m.1 r (head_of bytes text rest m) h) m.4

pub behind_text : (bytes r s t text rest : List ℕ) → IsHead bytes r → Denotes r t s → IsMember bytes text rest → s ≡ trailer t ++ rest
behind_text bytes r s t text rest h d m =
    let o : (t ≡ text) × (s ≡ trailer text ++ rest) = one_text r t s text (trailer text ++ rest) d (behind_head bytes r text rest h m) in
    o.1 ∙ ap (λ v. trailer v ++ rest) (sym o.0)

-- The bytes begin with members that make this text, and then rest.
pub record IsSoFar (bytes rest text : List ℕ) : Type 0 where
  pub ends : rest ≡ [] → IsGzip bytes text
  pub goes_on : (u : List ℕ) → IsGzip rest u → IsGzip bytes (text ++ u)
  pub came : (v : List ℕ) → IsGzip bytes v → (rest ≡ []) ⊎ ((u : List ℕ) × IsGzip rest u × (v ≡ text ++ u))

came_from : (bytes rest text first : List ℕ) (more : List (List ℕ)) → IsMember bytes text rest → AreMembers bytes (first ∷ more)
    → (rest ≡ []) ⊎ ((u : List ℕ) × IsGzip rest u × (joined (first ∷ more) ≡ text ++ u))
unfolding AreMembers joined
came_from bytes rest text first [] m h =
    let o : (text ≡ first) × (rest ≡ h.0) = one_member bytes text rest first h.0 m h.1 in
    inl (o.1 ∙ h.2)
came_from bytes rest text first (next ∷ more) m h =
    let o : (text ≡ first) × (rest ≡ h.0) = one_member bytes text rest first h.0 m h.1 in
    inr (joined (next ∷ more), (next, more, subst (λ v. AreMembers v (next ∷ more)) (sym o.1) h.2, refl), ap (λ v. v ++ joined (next ∷ more)) (sym o.0))

pub first_member : (bytes rest text : List ℕ) → IsMember bytes text rest → IsSoFar bytes rest text
unfolding AreMembers joined
first_member bytes rest text m = record {
  ends = λ z. (text, [], (rest, m, z), sym (append-nil text));
  goes_on = λ u g. (text, g.0 ∷ g.1, (rest, m, g.2), ap (λ v. text ++ v) g.3);
  came = λ v g. ⊎_elim
      (λ (z : rest ≡ []). inl z)
      (λ (w : (u : List ℕ) × IsGzip rest u × (joined (g.0 ∷ g.1) ≡ text ++ u)). inr (w.0, w.1, g.3 ∙ w.2))
      (came_from bytes rest text g.0 g.1 m g.2);
}

pub no_file : (bytes v : List ℕ) → ((text rest : List ℕ) → IsMember bytes text rest → ⊥) → IsGzip bytes v → ⊥
no_file bytes v none g =
    let m : (rest : List ℕ) × IsMember bytes g.0 rest = first_of bytes g.0 g.1 g.2 in
    none g.0 m.0 m.1

pub next_member : (bytes a b t u : List ℕ) → IsSoFar bytes a t → IsMember a u b → IsSoFar bytes b (t ++ u)
next_member bytes a b t u h m =
    let k : IsSoFar a b u = first_member a b u m in
    record {
      ends = λ z. h.goes_on u (k.ends z);
      goes_on = λ w g. subst (IsGzip bytes) (sym (append_assoc t u w)) (h.goes_on (u ++ w) (k.goes_on w g));
      came = λ v g. ⊎_elim
          (λ (z : a ≡ []). absurd (no_member a u b z m))
          (λ (x : (w : List ℕ) × IsGzip a w × (v ≡ t ++ w)). ⊎_elim
          (λ (z : b ≡ []). inl z)
          (λ (y : (w : List ℕ) × IsGzip b w × (x.0 ≡ u ++ w)). inr (y.0, y.1, x.2 ∙ ap (λ s. t ++ s) y.2 ∙ sym (append_assoc t u y.0)))
          (k.came x.0 x.1))
          (h.came v g);
    }

-- no member comes next, though some byte does
pub no_next : (bytes rest text v : List ℕ) → IsSoFar bytes rest text → 0 < length rest → ((u s : List ℕ) → IsMember rest u s → ⊥) → IsGzip bytes v → ⊥
no_next bytes rest text v h some none g = ⊎_elim
    (λ (z : rest ≡ []). omega (arith, ap length z, some))
    (λ (x : (u : List ℕ) × IsGzip rest u × (v ≡ text ++ u)). no_file rest x.0 none x.1)
    (h.came v g)
