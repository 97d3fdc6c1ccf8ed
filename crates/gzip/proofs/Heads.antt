-- The header of a member, part by part.
use Rattle.std.proofs.Common.{◌≡◌, ℕ, zero, suc, ◌+◌, ◌*◌, ◌/◌, ◌%◌, ◌^◌, ◌<◌, ◌≤◌, ◌↔◌, ⊎_elim, Bool, true, false, cond, IsTrue, List, [], ◌∷◌, ◌++◌, length, get_or, Option, Some, None, IfSome, refl, sym, ap, ◌∙◌, subst, arith}
use Rattle.std.proofs.lemmas.List.{append_assoc, length-append, append-nil}
use Rattle.std.proofs.lemmas.Bool.{cases_eq}
use Rattle.std.proofs.lemmas.Nat.{from_le_bytes-to_le_bytes_2, le_bytes_2}
use Rattle.std.specs.Int.{w16, to_le_bytes, from_le_bytes}
use Rattle.crc32.specs.Step.{crc32}
use Rattle.deflate.specs.Bits.{AreBelow}
use Rattle.deflate.proofs.Unique.{same_fronts}
use Rattle.gzip.specs.Gzip.{Header, IsHeader, IsText, flag, flags, extra_field, text_field, header_start}
use Rattle.gzip.specs.Reading.{IsStart, IsPiece, IsTextPiece, IsThere, IsTextField, IsExtraField, IsChecksum, IsHead}
use Rattle.gzip.proofs.ByteByByte.{one_text_piece, small_two}

-- a flag as a bit
pub record IsBit (n v : ℕ) (b : Bool) : Type 0 where
  pub bit : ℕ
  pub small : bit < 2
  pub value : n ≡ bit * v
  pub set : b ≡ true → bit ≡ 1
  pub unset : b ≡ false → bit ≡ 0

cond_bit : (b : Bool) (v : ℕ) → IsBit (cond b v 0) v b
cond_bit true v = record { bit = 1; small = omega arith; value = omega arith; set = λ e. refl; unset = λ e. absurd (let no : ⊥ = cc in no) }
cond_bit false v = record { bit = 0; small = omega arith; value = omega arith; set = λ e. absurd (let no : ⊥ = cc in no); unset = λ e. refl }

is_there : Option (List ℕ) → Bool
is_there None = false
is_there (Some bytes) = true

flag_bit : (o : Option (List ℕ)) (v : ℕ) → IsBit (flag v o) v (is_there o)
unfolding is_there
flag_bit (Some bytes) v = record { bit = 1; small = omega arith; value = omega arith; set = λ e. refl; unset = λ e. absurd (let no : ⊥ = cc in no) }
flag_bit None v = record { bit = 0; small = omega arith; value = omega arith; set = λ e. absurd (let no : ⊥ = cc in no); unset = λ e. refl }

there : (b : Bool) (o : Option (List ℕ)) → b ≡ is_there o → IsThere b o
unfolding is_there
there true None e = absurd (let no : ⊥ = cc in no)
there true (Some bytes) e = tt
there false None e = tt
there false (Some bytes) e = absurd (let no : ⊥ = cc in no)

there_is : (b : Bool) (o : Option (List ℕ)) → IsThere b o → b ≡ is_there o
unfolding is_there
there_is true None h = absurd h
there_is true (Some bytes) h = refl
there_is false None h = refl
there_is false (Some bytes) h = absurd h

-- two flags that are set alike are the same
same_flag : (a b : Bool) (n m : ℕ) → IsTrue a ↔ (n ≡ 1) → (b ≡ true → m ≡ 1) → (b ≡ false → m ≡ 0) → n ≡ m → a ≡ b
same_flag true true n m h s u e = refl
same_flag false false n m h s u e = refl
same_flag true false n m h s u e = let one : n ≡ 1 = h.0 refl in absurd (omega (arith, one, u refl, e))
same_flag false true n m h s u e = let yes : false ≡ true = h.1 (e ∙ s refl) in absurd (let no : ⊥ = cc in no)

-- the flags of a header
pub record AreFlags (h : Header) : Type 0 where
  pub small : flags h < 32
  pub checksum : (b : Bool) → IsTrue b ↔ (flags h / 2 % 2 ≡ 1) → b ≡ h.has_checksum
  pub extra : (b : Bool) → IsTrue b ↔ (flags h / 4 % 2 ≡ 1) → IsThere b h.extra
  pub name : (b : Bool) → IsTrue b ↔ (flags h / 8 % 2 ≡ 1) → IsThere b h.name
  pub comment : (b : Bool) → IsTrue b ↔ (flags h / 16 % 2 ≡ 1) → IsThere b h.comment

pub flags_of : (h : Header) → AreFlags h
flags_of h =
    let t : IsBit (cond h.is_text 1 0) 1 h.is_text = cond_bit h.is_text 1 in
    let k : IsBit (cond h.has_checksum 2 0) 2 h.has_checksum = cond_bit h.has_checksum 2 in
    let e : IsBit (flag 4 h.extra) 4 (is_there h.extra) = flag_bit h.extra 4 in
    let n : IsBit (flag 8 h.name) 8 (is_there h.name) = flag_bit h.name 8 in
    let c : IsBit (flag 16 h.comment) 16 (is_there h.comment) = flag_bit h.comment 16 in
    let all : flags h ≡ t.bit * 1 + k.bit * 2 + e.bit * 4 + n.bit * 8 + c.bit * 16 = omega (arith, t.value, k.value, e.value, n.value, c.value) in
    record {
      small = omega (arith, all, t.small, k.small, e.small, n.small, c.small);
      checksum = λ b is. same_flag b h.has_checksum (flags h / 2 % 2) k.bit is k.set k.unset (omega (arith, all, t.small, k.small, e.small, n.small, c.small));
      extra = λ b is. there b h.extra (same_flag b (is_there h.extra) (flags h / 4 % 2) e.bit is e.set e.unset (omega (arith, all, t.small, k.small, e.small, n.small, c.small)));
      name = λ b is. there b h.name (same_flag b (is_there h.name) (flags h / 8 % 2) n.bit is n.set n.unset (omega (arith, all, t.small, k.small, e.small, n.small, c.small)));
      comment = λ b is. there b h.comment (same_flag b (is_there h.comment) (flags h / 16 % 2) c.bit is c.set c.unset (omega (arith, all, t.small, k.small, e.small, n.small, c.small)));
    }

-- the parts of a header
pub record AreParts (bytes rest : List ℕ) (h : Header) : Type 0 where
  pub behind_start : List ℕ
  pub behind_times : List ℕ
  pub behind_extra : List ℕ
  pub behind_name : List ℕ
  pub behind_comment : List ℕ
  pub start : IsStart bytes behind_start (flags h)
  pub times : IsPiece behind_start h.times behind_times 6
  pub extra : behind_times ≡ extra_field h.extra ++ behind_extra
  pub name : behind_extra ≡ text_field h.name ++ behind_name
  pub comment : behind_name ≡ text_field h.comment ++ behind_comment
  pub checksum : IsChecksum h.has_checksum (header_start h) behind_comment rest

regroup_head : (a b c d e f : List ℕ) → ((((a ++ b) ++ c) ++ d) ++ e) ++ f ≡ a ++ (b ++ (c ++ (d ++ (e ++ f))))
regroup_head a b c d e f = simp append_assoc

checked : (b : Bool) (before rest : List ℕ) → IsChecksum b before (cond b (to_le_bytes w16 (crc32 before % 2 ^ 16)) [] ++ rest) rest
checked true before rest = refl
checked false before rest = refl

pub parts_of : (bytes rest : List ℕ) → (h : IsHead bytes rest) → AreParts bytes rest h.header
parts_of bytes rest h =
    let k = h.header in
    let r5 = cond k.has_checksum (to_le_bytes w16 (crc32 (header_start k) % 2 ^ 16)) [] ++ rest in
    let r4 = text_field k.comment ++ r5 in
    let r3 = text_field k.name ++ r4 in
    let r2 = extra_field k.extra ++ r3 in
    let r1 = k.times ++ r2 in
    let e : bytes ≡ (31 ∷ 139 ∷ 8 ∷ flags k ∷ k.times) ++ r2 =
    h.begins ∙ regroup_head (31 ∷ 139 ∷ 8 ∷ flags k ∷ k.times) (extra_field k.extra) (text_field k.name) (text_field k.comment) (cond k.has_checksum (to_le_bytes w16 (crc32 (header_start k) % 2 ^ 16)) []) rest in
    record {
      behind_start = r1;
      behind_times = r2;
      behind_extra = r3;
      behind_name = r4;
      behind_comment = r5;
      start = record { small = (flags_of k).small; begins = e };
      times = record { count_is = h.is.six; begins = refl };
      extra = refl;
      name = refl;
      comment = refl;
      checksum = checked k.has_checksum (header_start k) rest;
    }

-- each part is read in one way
pub one_start : (bytes x y : List ℕ) (f k : ℕ) → IsStart bytes x f → IsStart bytes y k → (f ≡ k) × (x ≡ y)
one_start bytes x y f k p q =
    let e : 31 ∷ 139 ∷ 8 ∷ f ∷ x ≡ 31 ∷ 139 ∷ 8 ∷ k ∷ y = sym p.begins ∙ q.begins in
    (let a : f ≡ k = cc in a, let b : x ≡ y = cc in b)

pub one_piece : (bytes p q x y : List ℕ) (n : ℕ) → IsPiece bytes p x n → IsPiece bytes q y n → (p ≡ q) × (x ≡ y)
one_piece bytes p q x y n h k = same_fronts p q x y (h.count_is ∙ sym k.count_is) (sym h.begins ∙ k.begins)

-- a field that is known to be there, or not
pub known_text : (b : Bool) (bytes rest : List ℕ) (o : Option (List ℕ)) → IsThere b o → IfSome o IsText → bytes ≡ text_field o ++ rest → IsTextField b bytes (text_field o) rest
known_text b bytes rest o is_in h e = record { field = o; there = is_in; is = h; piece_is = refl; begins = e }

pub text_piece : (bytes piece rest content : List ℕ) → IsText content → piece ≡ content ++ 0 ∷ [] → bytes ≡ piece ++ rest → IsTextPiece bytes piece rest
text_piece bytes piece rest content h e f = record { text = content; is = h; piece_is = e; begins = f }

field_piece : (bytes piece rest : List ℕ) (o : Option (List ℕ)) → IsThere true o → IfSome o IsText → piece ≡ text_field o → bytes ≡ piece ++ rest → IsTextPiece bytes piece rest
field_piece bytes piece rest None in_it h e f = absurd in_it
field_piece bytes piece rest (Some content) in_it h e f = text_piece bytes piece rest content h e f

pub piece_of : (bytes piece rest : List ℕ) → IsTextField true bytes piece rest → IsTextPiece bytes piece rest
piece_of bytes piece rest h = field_piece bytes piece rest h.field h.there h.is h.piece_is h.begins

pub field_of : (bytes piece rest : List ℕ) → IsTextPiece bytes piece rest → IsTextField true bytes piece rest
field_of bytes piece rest h = record { field = Some h.text; there = tt; is = h.is; piece_is = h.piece_is; begins = h.begins }

pub no_field : (bytes : List ℕ) → IsTextField false bytes [] bytes
no_field bytes = record { field = None; there = tt; is = tt; piece_is = refl; begins = refl }

none_piece : (piece : List ℕ) (o : Option (List ℕ)) → IsThere false o → piece ≡ text_field o → piece ≡ []
none_piece piece None h e = e
none_piece piece (Some content) h e = absurd h

pub one_text_field : (b : Bool) (bytes p q x y : List ℕ) → IsTextField b bytes p x → IsTextField b bytes q y → (p ≡ q) × (x ≡ y)
one_text_field true bytes p q x y h k = one_text_piece bytes p q x y (piece_of bytes p x h) (piece_of bytes q y k)
one_text_field false bytes p q x y h k =
    let a : p ≡ [] = none_piece p h.field h.there h.piece_is in
    let b : q ≡ [] = none_piece q k.field k.there k.piece_is in
    (a ∙ sym b, sym (h.begins ∙ ap (λ u. u ++ x) a) ∙ k.begins ∙ ap (λ u. u ++ y) b)

-- the field of an extra length
pub record IsExtraContent (a b : ℕ) (r piece rest : List ℕ) : Type 0 where
  pub content : List ℕ
  pub piece_is : piece ≡ a ∷ b ∷ content
  pub length_is : length content ≡ from_le_bytes w16 (a ∷ b ∷ [])
  pub begins : r ≡ content ++ rest

content_of : (bytes r piece rest : List ℕ) (a b : ℕ) (o : Option (List ℕ)) → IsThere true o → IfSome o (λ content. AreBelow 256 content × (length content < 65536)) → piece ≡ extra_field o
    → bytes ≡ piece ++ rest → bytes ≡ a ∷ b ∷ r → IsExtraContent a b r piece rest
content_of bytes r piece rest a b None in_it h e f k = absurd in_it
content_of bytes r piece rest a b (Some content) in_it h e f k =
    let n = length content in
    let two = to_le_bytes w16 n in
    let all : (a ∷ b ∷ []) ++ r ≡ two ++ (content ++ rest) = sym k ∙ f ∙ ap (λ u. u ++ rest) e ∙ append_assoc two content rest in
    let s : (a ∷ b ∷ [] ≡ two) × (r ≡ content ++ rest) = same_fronts (a ∷ b ∷ []) two r (content ++ rest) refl all in
    record {
      content = content;
      piece_is = e ∙ ap (λ u. u ++ content) (sym s.0);
      length_is = sym (ap (from_le_bytes w16) s.0 ∙ from_le_bytes-to_le_bytes_2 n h.1);
      begins = s.1;
    }

pub extra_content : (bytes r piece rest : List ℕ) (a b : ℕ) → IsExtraField true bytes piece rest → bytes ≡ a ∷ b ∷ r → IsExtraContent a b r piece rest
extra_content bytes r piece rest a b h k = content_of bytes r piece rest a b h.field h.there h.is h.piece_is h.begins k

extra_long : (piece : List ℕ) (o : Option (List ℕ)) → IsThere true o → piece ≡ extra_field o → 2 ≤ length piece
extra_long piece None h e = absurd h
extra_long piece (Some content) h e =
    let w : length piece ≡ length (to_le_bytes w16 (length content)) + length content = ap length e ∙ length-append (to_le_bytes w16 (length content)) content in
    let two : length (to_le_bytes w16 (length content)) ≡ 2 = refl in
    omega (arith, w, two)

pub extra_cut : (bytes piece rest : List ℕ) → length bytes < 2 → IsExtraField true bytes piece rest → ⊥
extra_cut bytes piece rest lt h =
    let w : length bytes ≡ length piece + length rest = ap length h.begins ∙ length-append piece rest in
    omega (arith, w, lt, extra_long piece h.field h.there h.piece_is)

pub content_cut : (a b : ℕ) (r piece rest : List ℕ) → length r < from_le_bytes w16 (a ∷ b ∷ []) → IsExtraContent a b r piece rest → ⊥
content_cut a b r piece rest lt h =
    let w : length r ≡ length h.content + length rest = ap length h.begins ∙ length-append h.content rest in
    omega (arith, w, lt, h.length_is)

pub below_front : (m : ℕ) (a b : List ℕ) → AreBelow m (a ++ b) → AreBelow m a
unfolding AreBelow
below_front m [] b h = tt
below_front m (x ∷ a) b h = (h.0, below_front m a b h.1)

pub extra_read : (bytes q r rest content : List ℕ) (a b n : ℕ) → AreBelow 256 bytes → bytes ≡ a ∷ q → q ≡ b ∷ r → n ≡ from_le_bytes w16 (a ∷ b ∷ []) → n < 65536
    → IsPiece r content rest n → IsExtraField true bytes (a ∷ b ∷ content) rest
unfolding AreBelow
extra_read bytes q r rest content a b n below e f is small h =
    let all : bytes ≡ a ∷ b ∷ r = e ∙ ap (λ u. a ∷ u) f in
    let k : AreBelow 256 (a ∷ b ∷ r) = subst (AreBelow 256) all below in
    let k' : AreBelow 256 (content ++ rest) = subst (AreBelow 256) h.begins k.1.1 in
    let bytes_small : (i : ℕ) → get_or (a ∷ b ∷ []) i 0 < 256 = small_two a b k.0 k.1.0 in
    record {
      field = Some content;
      there = tt;
      is = (below_front 256 content rest k', omega (arith, h.count_is, small));
      piece_is = ap (λ u. u ++ content) (sym (le_bytes_2 (a ∷ b ∷ []) (length content) refl bytes_small (h.count_is ∙ is)));
      begins = all ∙ ap (λ u. a ∷ b ∷ u) h.begins;
    }

pub no_extra : (bytes : List ℕ) → IsExtraField false bytes [] bytes
no_extra bytes = record { field = None; there = tt; is = tt; piece_is = refl; begins = refl }

none_extra : (piece : List ℕ) (o : Option (List ℕ)) → IsThere false o → piece ≡ extra_field o → piece ≡ []
none_extra piece None h e = e
none_extra piece (Some content) h e = absurd h

some_two : (piece : List ℕ) → 2 ≤ length piece → (a b : ℕ) × (r : List ℕ) × (piece ≡ a ∷ b ∷ r)
some_two [] le = absurd (omega arith)
some_two (a ∷ []) le = absurd (omega arith)
some_two (a ∷ b ∷ r) le = (a, b, r, refl)

pub one_extra_field : (b : Bool) (bytes p q x y : List ℕ) → IsExtraField b bytes p x → IsExtraField b bytes q y → (p ≡ q) × (x ≡ y)
one_extra_field false bytes p q x y h k =
    let a : p ≡ [] = none_extra p h.field h.there h.piece_is in
    let b : q ≡ [] = none_extra q k.field k.there k.piece_is in
    (a ∙ sym b, sym (h.begins ∙ ap (λ u. u ++ x) a) ∙ k.begins ∙ ap (λ u. u ++ y) b)
one_extra_field true bytes p q x y h k =
    let w = some_two p (extra_long p h.field h.there h.piece_is) in
    let r = w.2 ++ x in
    let all : bytes ≡ w.0 ∷ w.1 ∷ r = h.begins ∙ ap (λ u. u ++ x) w.3 in
    let s : IsExtraContent w.0 w.1 r p x = extra_content bytes r p x w.0 w.1 h all in
    let t : IsExtraContent w.0 w.1 r q y = extra_content bytes r q y w.0 w.1 k all in
    let o : (s.content ≡ t.content) × (x ≡ y) = same_fronts s.content t.content x y (s.length_is ∙ sym t.length_is) (sym s.begins ∙ t.begins) in
    (s.piece_is ∙ ap (λ u. w.0 ∷ w.1 ∷ u) o.0 ∙ sym t.piece_is, o.1)

-- the checksum
pub one_checksum : (b : Bool) (before bytes x y : List ℕ) → IsChecksum b before bytes x → IsChecksum b before bytes y → x ≡ y
one_checksum true before bytes x y h k =
    let two = to_le_bytes w16 (crc32 before % 2 ^ 16) in
    let s : (two ≡ two) × (x ≡ y) = same_fronts two two x y refl (sym h ∙ k) in
    s.1
one_checksum false before bytes x y h k = sym h ∙ k

-- a header is made of its parts
whole_header : (b : Bool) (start rest behind : List ℕ) → IsChecksum b start behind rest → start ++ behind ≡ (start ++ cond b (to_le_bytes w16 (crc32 start % 2 ^ 16)) []) ++ rest
whole_header true start rest behind h = ap (λ u. start ++ u) h ∙ sym (append_assoc start (to_le_bytes w16 (crc32 start % 2 ^ 16)) rest)
whole_header false start rest behind h = ap (λ u. start ++ u) h ∙ ap (λ u. u ++ rest) (sym (append-nil start))

regroup_start : (a b c d e : List ℕ) → a ++ (b ++ (c ++ (d ++ e))) ≡ (((a ++ b) ++ c) ++ d) ++ e
regroup_start a b c d e = simp append_assoc

pub make_head : (bytes rest : List ℕ) (h : Header) → IsHeader h → AreParts bytes rest h → IsHead bytes rest
make_head bytes rest h is p =
    let front = 31 ∷ 139 ∷ 8 ∷ flags h ∷ h.times in
    let e : bytes ≡ front ++ p.behind_times = p.start.begins ∙ ap (λ u. 31 ∷ 139 ∷ 8 ∷ flags h ∷ u) p.times.begins in
    let f : bytes ≡ header_start h ++ p.behind_comment =
    e ∙ ap (λ u. front ++ u) (p.extra ∙ ap (λ u. extra_field h.extra ++ u) (p.name ∙ ap (λ u. text_field h.name ++ u) p.comment))
    ∙ regroup_start front (extra_field h.extra) (text_field h.name) (text_field h.comment) p.behind_comment in
    record { header = h; is = is; begins = f ∙ whole_header h.has_checksum (header_start h) rest p.behind_comment p.checksum }

-- the start, byte by byte
pub no_start : (bytes rest : List ℕ) (f : ℕ) → IsStart bytes rest f → bytes ≡ [] → ⊥
no_start bytes rest f is e = omega (arith, ap length (sym is.begins ∙ e))

pub start_first : (bytes r rest : List ℕ) (a f : ℕ) → bytes ≡ a ∷ r → IsStart bytes rest f → (a ≡ 31) × (r ≡ 139 ∷ 8 ∷ f ∷ rest)
start_first bytes r rest a f e is =
    let all : a ∷ r ≡ 31 ∷ 139 ∷ 8 ∷ f ∷ rest = sym e ∙ is.begins in
    (let x : a ≡ 31 = cc in x, let y : r ≡ 139 ∷ 8 ∷ f ∷ rest = cc in y)

pub next_byte : (r s rest : List ℕ) (a b : ℕ) → r ≡ a ∷ s → r ≡ b ∷ rest → (a ≡ b) × (s ≡ rest)
next_byte r s rest a b e f =
    let all : a ∷ s ≡ b ∷ rest = sym e ∙ f in
    (let x : a ≡ b = cc in x, let y : s ≡ rest = cc in y)

pub not_empty : (r rest : List ℕ) (b : ℕ) → r ≡ b ∷ rest → r ≡ [] → ⊥
not_empty r rest b e f = omega (arith, ap length (sym e ∙ f))

pub start_read : (bytes r s u rest : List ℕ) (a b d f : ℕ) → bytes ≡ a ∷ r → r ≡ b ∷ s → s ≡ d ∷ u → u ≡ f ∷ rest → a ≡ 31 → b ≡ 139 → d ≡ 8 → f < 32 → IsStart bytes rest f
start_read bytes r s u rest a b d f e g h i is_a is_b is_d small = record {
  small = small;
  begins = e ∙ ap (λ v. v ∷ r) is_a ∙ ap (λ v. 31 ∷ v) (g ∙ ap (λ v. v ∷ s) is_b ∙ ap (λ v. 139 ∷ v) (h ∙ ap (λ v. v ∷ u) is_d ∙ ap (λ v. 8 ∷ v) i));
}

-- the flags of a header that is made
bit_made : (b : Bool) (x v : ℕ) → x < 2 → IsTrue b ↔ (x ≡ 1) → cond b v 0 ≡ x * v
bit_made true x v lt h = let one : x ≡ 1 = h.0 refl in sym (ap (λ n. n * v) one ∙ omega arith)
bit_made false x v lt h =
    let none : x ≡ 0 = ⊎_elim
    (λ (q : x ≡ 1). let yes : false ≡ true = h.1 q in absurd (let no : ⊥ = cc in no))
    (λ (ne : x ≡ 1 → ⊥). omega (arith, lt, ne))
    (cases_eq x 1) in
    sym (ap (λ n. n * v) none ∙ omega arith)

field_made : (b : Bool) (o : Option (List ℕ)) (x v : ℕ) → x < 2 → IsTrue b ↔ (x ≡ 1) → IsThere b o → flag v o ≡ x * v
field_made true None x v lt h in_it = absurd in_it
field_made true (Some bytes) x v lt h in_it = bit_made true x v lt h
field_made false None x v lt h in_it = bit_made false x v lt h
field_made false (Some bytes) x v lt h in_it = absurd in_it

-- some flag is as a bit says
pub record HasBit (x : ℕ) : Type 0 where
  pub set : Bool
  pub value : cond set 1 0 ≡ x

pub has_bit : (x : ℕ) → x < 2 → HasBit x
has_bit zero lt = record { set = false; value = refl }
has_bit (suc zero) lt = record { set = true; value = refl }
has_bit (suc (suc x)) lt = absurd (omega (arith, lt))

pub flags_made : (f : ℕ) (h : Header) → f < 32 → cond h.is_text 1 0 ≡ f % 2 → IsTrue h.has_checksum ↔ (f / 2 % 2 ≡ 1)
    → (e n c : Bool) → IsTrue e ↔ (f / 4 % 2 ≡ 1) → IsThere e h.extra → IsTrue n ↔ (f / 8 % 2 ≡ 1) → IsThere n h.name → IsTrue c ↔ (f / 16 % 2 ≡ 1) → IsThere c h.comment
    → flags h ≡ f
flags_made f h small t k e n c e_is e_in n_is n_in c_is c_in =
    let a : cond h.has_checksum 2 0 ≡ f / 2 % 2 * 2 = bit_made h.has_checksum (f / 2 % 2) 2 (omega arith) k in
    let b : flag 4 h.extra ≡ f / 4 % 2 * 4 = field_made e h.extra (f / 4 % 2) 4 (omega arith) e_is e_in in
    let d : flag 8 h.name ≡ f / 8 % 2 * 8 = field_made n h.name (f / 8 % 2) 8 (omega arith) n_is n_in in
    let g : flag 16 h.comment ≡ f / 16 % 2 * 16 = field_made c h.comment (f / 16 % 2) 16 (omega arith) c_is c_in in
    omega (arith, t, a, b, d, g, small)

-- the parts of any header, behind those that were read
pub behind_start : (bytes r rest : List ℕ) (f : ℕ) → IsStart bytes r f → (h : IsHead bytes rest) → (f ≡ flags h.header) × (r ≡ (parts_of bytes rest h).behind_start)
behind_start bytes r rest f s h =
    let p = parts_of bytes rest h in
    one_start bytes r p.behind_start f (flags h.header) s p.start

pub behind_times : (bytes r q times rest : List ℕ) (f : ℕ) → IsStart bytes r f → IsPiece r times q 6 → (h : IsHead bytes rest) → (times ≡ h.header.times) × (q ≡ (parts_of bytes rest h).behind_times)
behind_times bytes r q times rest f s t h =
    let p = parts_of bytes rest h in
    let k : IsPiece r h.header.times p.behind_times 6 = subst (λ u. IsPiece u h.header.times p.behind_times 6) (sym (behind_start bytes r rest f s h).1) p.times in
    one_piece r times h.header.times q p.behind_times 6 t k

-- the field that has to come
pub extra_due : (bytes r q times rest : List ℕ) (f : ℕ) (b : Bool) → IsStart bytes r f → IsPiece r times q 6 → IsTrue b ↔ (f / 4 % 2 ≡ 1) → (h : IsHead bytes rest)
    → IsExtraField b q (extra_field h.header.extra) (parts_of bytes rest h).behind_extra
extra_due bytes r q times rest f b s t is h =
    let p = parts_of bytes rest h in
    let fl : f ≡ flags h.header = (behind_start bytes r rest f s h).0 in
    let is' : IsTrue b ↔ (flags h.header / 4 % 2 ≡ 1) = subst (λ k. IsTrue b ↔ (k / 4 % 2 ≡ 1)) fl is in
    record {
      field = h.header.extra;
      there = (flags_of h.header).extra b is';
      is = h.is.extra;
      piece_is = refl;
      begins = (behind_times bytes r q times rest f s t h).1 ∙ p.extra;
    }

pub name_due : (bytes r q times e x rest : List ℕ) (f : ℕ) (a b : Bool) → IsStart bytes r f → IsPiece r times q 6 → IsTrue a ↔ (f / 4 % 2 ≡ 1) → IsExtraField a q e x
    → IsTrue b ↔ (f / 8 % 2 ≡ 1) → (h : IsHead bytes rest) → IsTextField b x (text_field h.header.name) (parts_of bytes rest h).behind_name
name_due bytes r q times e x rest f a b s t a_is ex is h =
    let p = parts_of bytes rest h in
    let fl : f ≡ flags h.header = (behind_start bytes r rest f s h).0 in
    let is' : IsTrue b ↔ (flags h.header / 8 % 2 ≡ 1) = subst (λ k. IsTrue b ↔ (k / 8 % 2 ≡ 1)) fl is in
    let o = one_extra_field a q e (extra_field h.header.extra) x p.behind_extra ex (extra_due bytes r q times rest f a s t a_is h) in
    known_text b x p.behind_name h.header.name ((flags_of h.header).name b is') h.is.name (o.1 ∙ p.name)

pub comment_due : (bytes r q times e x n y rest : List ℕ) (f : ℕ) (a b d : Bool) → IsStart bytes r f → IsPiece r times q 6 → IsTrue a ↔ (f / 4 % 2 ≡ 1) → IsExtraField a q e x
    → IsTrue b ↔ (f / 8 % 2 ≡ 1) → IsTextField b x n y → IsTrue d ↔ (f / 16 % 2 ≡ 1) → (h : IsHead bytes rest) → IsTextField d y (text_field h.header.comment) (parts_of bytes rest h).behind_comment
comment_due bytes r q times e x n y rest f a b d s t a_is ex b_is na is h =
    let p = parts_of bytes rest h in
    let fl : f ≡ flags h.header = (behind_start bytes r rest f s h).0 in
    let is' : IsTrue d ↔ (flags h.header / 16 % 2 ≡ 1) = subst (λ k. IsTrue d ↔ (k / 16 % 2 ≡ 1)) fl is in
    let o = one_text_field b x n (text_field h.header.name) y p.behind_name na (name_due bytes r q times e x rest f a b s t a_is ex b_is h) in
    known_text d y p.behind_comment h.header.comment ((flags_of h.header).comment d is') h.is.comment (o.1 ∙ p.comment)

-- the bytes of a header before its checksum, as they were read
abbrev pub read_so_far : ℕ → List ℕ → List ℕ → List ℕ → List ℕ → List ℕ
read_so_far f times e n c = 31 ∷ 139 ∷ 8 ∷ f ∷ times ++ e ++ n ++ c

pub checksum_due : (bytes r q times e x n y c w rest : List ℕ) (f : ℕ) (a b d z : Bool) → IsStart bytes r f → IsPiece r times q 6 → IsTrue a ↔ (f / 4 % 2 ≡ 1) → IsExtraField a q e x
    → IsTrue b ↔ (f / 8 % 2 ≡ 1) → IsTextField b x n y → IsTrue d ↔ (f / 16 % 2 ≡ 1) → IsTextField d y c w → IsTrue z ↔ (f / 2 % 2 ≡ 1) → IsHead bytes rest
    → IsChecksum z (read_so_far f times e n c) w rest
checksum_due bytes r q times e x n y c w rest f a b d z s t a_is ex b_is na d_is co is h =
    let k = h.header in
    let p = parts_of bytes rest h in
    let fl = behind_start bytes r rest f s h in
    let ti = behind_times bytes r q times rest f s t h in
    let is' : IsTrue z ↔ (flags k / 2 % 2 ≡ 1) = subst (λ v. IsTrue z ↔ (v / 2 % 2 ≡ 1)) fl.0 is in
    let same : z ≡ k.has_checksum = (flags_of k).checksum z is' in
    let o1 = one_extra_field a q e (extra_field k.extra) x p.behind_extra ex (extra_due bytes r q times rest f a s t a_is h) in
    let o2 = one_text_field b x n (text_field k.name) y p.behind_name na (name_due bytes r q times e x rest f a b s t a_is ex b_is h) in
    let o3 = one_text_field d y c (text_field k.comment) w p.behind_comment co (comment_due bytes r q times e x n y rest f a b d s t a_is ex b_is na d_is h) in
    let before : header_start k ≡ read_so_far f times e n c =
    sym (ap (λ v. read_so_far v times e n c) fl.0 ∙ ap (λ v. read_so_far (flags k) v e n c) ti.0 ∙ ap (λ v. read_so_far (flags k) k.times v n c) o1.0
    ∙ ap (λ v. read_so_far (flags k) k.times (extra_field k.extra) v c) o2.0 ∙ ap (λ v. read_so_far (flags k) k.times (extra_field k.extra) (text_field k.name) v) o3.0) in
    subst (λ v. IsChecksum z (read_so_far f times e n c) v rest) (sym o3.1)
    (subst (λ v. IsChecksum z v p.behind_comment rest) before (subst (λ v. IsChecksum v (header_start k) p.behind_comment rest) (sym same) p.checksum))

-- the header that was read
pub head_read : (bytes r q times e x n y c w rest : List ℕ) (f : ℕ) (a b d z : Bool) → AreBelow 256 times → IsStart bytes r f → IsPiece r times q 6 → IsTrue a ↔ (f / 4 % 2 ≡ 1)
    → IsExtraField a q e x → IsTrue b ↔ (f / 8 % 2 ≡ 1) → IsTextField b x n y → IsTrue d ↔ (f / 16 % 2 ≡ 1) → IsTextField d y c w → IsTrue z ↔ (f / 2 % 2 ≡ 1)
    → IsChecksum z (read_so_far f times e n c) w rest → IsHead bytes rest
head_read bytes r q times e x n y c w rest f a b d z below s t a_is ex b_is na d_is co z_is sum =
    let text : HasBit (f % 2) = has_bit (f % 2) (omega arith) in
    let h : Header = record { is_text = text.set; times = times; extra = ex.field; name = na.field; comment = co.field; has_checksum = z } in
    let same : flags h ≡ f = flags_made f h s.small text.value z_is a b d a_is ex.there b_is na.there d_is co.there in
    let before : read_so_far f times e n c ≡ header_start h =
    ap (λ v. read_so_far v times e n c) (sym same) ∙ ap (λ v. read_so_far (flags h) times v n c) ex.piece_is
    ∙ ap (λ v. read_so_far (flags h) times (extra_field ex.field) v c) na.piece_is ∙ ap (λ v. read_so_far (flags h) times (extra_field ex.field) (text_field na.field) v) co.piece_is in
    make_head bytes rest h
    (record { six = t.count_is; times = below; extra = ex.is; name = na.is; comment = co.is })
    (record {
      behind_start = r;
      behind_times = q;
      behind_extra = x;
      behind_name = y;
      behind_comment = w;
      start = record { small = omega (arith, same, s.small); begins = s.begins ∙ ap (λ v. 31 ∷ 139 ∷ 8 ∷ v ∷ r) (sym same) };
      times = t;
      extra = ex.begins ∙ ap (λ v. v ++ x) ex.piece_is;
      name = na.begins ∙ ap (λ v. v ++ y) na.piece_is;
      comment = co.begins ∙ ap (λ v. v ++ w) co.piece_is;
      checksum = subst (λ v. IsChecksum z v w rest) before sum;
    })

-- the checksum that was read
pub sum_read : (m bytes rest : List ℕ) (n : ℕ) → n ≡ crc32 m % 2 ^ 16 → bytes ≡ to_le_bytes w16 n ++ rest → IsChecksum true m bytes rest
sum_read m bytes rest n is e = e ∙ ap (λ v. to_le_bytes w16 v ++ rest) is

pub sum_cut : (m bytes rest : List ℕ) → length bytes < 2 → IsChecksum true m bytes rest → ⊥
sum_cut m bytes rest lt h =
    let two = to_le_bytes w16 (crc32 m % 2 ^ 16) in
    let w : length bytes ≡ length two + length rest = ap length h ∙ length-append two rest in
    let n : length two ≡ 2 = refl in
    omega (arith, w, n, lt)

pub sum_other : (m bytes r rest : List ℕ) (n : ℕ) → n < 2 ^ 16 → bytes ≡ to_le_bytes w16 n ++ r → IsChecksum true m bytes rest → n ≡ crc32 m % 2 ^ 16
sum_other m bytes r rest n lt e h =
    let v = crc32 m % 2 ^ 16 in
    let s : (to_le_bytes w16 n ≡ to_le_bytes w16 v) × (r ≡ rest) = same_fronts (to_le_bytes w16 n) (to_le_bytes w16 v) r rest refl (sym e ∙ h) in
    sym (from_le_bytes-to_le_bytes_2 n lt) ∙ ap (from_le_bytes w16) s.0 ∙ from_le_bytes-to_le_bytes_2 v (omega arith)
