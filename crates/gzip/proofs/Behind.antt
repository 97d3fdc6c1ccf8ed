-- What is put behind a stream, a member or a file, and what is cut off.
use Rattle.std.proofs.Common.{◌≡◌, ℕ, zero, suc, ◌+◌, ◌/◌, ◌%◌, ◌<◌, ◌≤◌, ◌⊎◌, ⊎_elim, inl, inr, ◌↔◌, IsTrue, Bool, true, false, List, [], ◌∷◌, ◌++◌, length, drop, refl, sym, ap, ◌∙◌, subst, arith}
use Rattle.std.proofs.lemmas.List.{append_assoc, drop-append-le}
use Rattle.deflate.specs.Bits.{bits, bits_of}
use Rattle.deflate.specs.Deflate.{Block, block_bits, text_after_block, AreBlocks, Denotes}
use Rattle.deflate.proofs.Packing.{bits_of-append}
use Rattle.deflate.proofs.Unique.{same_fronts}
use Rattle.deflate.proofs.UniqueBlocks.{one_text}
use Rattle.gzip.specs.Gzip.{header_bytes, extra_field, text_field, flags, trailer, IsMember, AreMembers, joined, IsGzip}
use Rattle.gzip.specs.Reading.{IsHead, IsTextField, IsExtraField, IsChecksum}
use Rattle.gzip.proofs.Heads.{parts_of, no_start, extra_due, name_due, comment_due, checksum_due, one_checksum, read_so_far}

blocks_more : (p : ℕ) (xs old new rest more : List ℕ) (blocks : List Block) → AreBlocks p xs old blocks new rest → AreBlocks p (xs ++ more) old blocks new (rest ++ more)
unfolding AreBlocks
blocks_more p xs old new rest more [] are = are
blocks_more p xs old new rest more (b ∷ []) are = (are.0, ap (λ u. u ++ more) are.1 ∙ append_assoc (bits 1 1 ++ block_bits b) rest more, are.2)
blocks_more p xs old new rest more (b ∷ c ∷ blocks) are = (
  are.0 ++ more,
  are.1,
  ap (λ u. u ++ more) are.2 ∙ append_assoc (bits 1 0 ++ block_bits b) are.0 more,
  blocks_more (p + 1 + length (block_bits b)) are.0 (text_after_block old b) new rest more (c ∷ blocks) are.3,
)

dropped : (n : ℕ) (bytes : List ℕ) → (k : ℕ) × (k ≤ length bytes) × (drop n bytes ≡ drop k bytes)
dropped zero bytes = (0, omega arith, refl)
dropped (suc n) [] = (0, omega arith, refl)
dropped (suc n) (b ∷ bytes) = let d : (k : ℕ) × (k ≤ length bytes) × (drop n bytes ≡ drop k bytes) = dropped n bytes in (suc d.0, omega (arith, d.1), d.2)

pub denotes_more : (bytes text rest more : List ℕ) → Denotes bytes text rest → Denotes (bytes ++ more) text (rest ++ more)
denotes_more bytes text rest more h =
    let d : (k : ℕ) × (k ≤ length bytes) × (drop h.2 bytes ≡ drop k bytes) = dropped h.2 bytes in
    let e : (h.1 ++ bits_of rest) ++ bits_of more ≡ h.1 ++ bits_of (rest ++ more) =
    append_assoc h.1 (bits_of rest) (bits_of more) ∙ ap (λ u. h.1 ++ u) (sym (bits_of-append rest more)) in
    let b : AreBlocks 0 (bits_of bytes ++ bits_of more) [] h.0 text ((h.1 ++ bits_of rest) ++ bits_of more) = blocks_more 0 (bits_of bytes) [] text (h.1 ++ bits_of rest) (bits_of more) h.0 h.3 in
    let b' : AreBlocks 0 (bits_of bytes ++ bits_of more) [] h.0 text (h.1 ++ bits_of (rest ++ more)) = subst (AreBlocks 0 (bits_of bytes ++ bits_of more) [] h.0 text) e b in (
      h.0,
      h.1,
      d.0,
      subst (λ u. AreBlocks 0 u [] h.0 text (h.1 ++ bits_of (rest ++ more))) (sym (bits_of-append bytes more)) b',
      h.4,
      ap (λ u. u ++ more) (h.5 ∙ d.2) ∙ sym (drop-append-le d.0 bytes more d.1),
    )

member_more : (bytes text rest more : List ℕ) → IsMember bytes text rest → IsMember (bytes ++ more) text (rest ++ more)
member_more bytes text rest more h = (
  h.0,
  h.1 ++ more,
  h.2,
  ap (λ u. u ++ more) h.3 ∙ append_assoc (header_bytes h.0) h.1 more,
  subst (Denotes (h.1 ++ more) text) (append_assoc (trailer text) rest more) (denotes_more h.1 text (trailer text ++ rest) more h.4),
)

-- a bit as a flag
a_flag : (x : ℕ) → x < 2 → (b : Bool) × (IsTrue b ↔ (x ≡ 1))
a_flag zero lt = (false, (λ e. absurd (let no : ⊥ = cc in no), λ e. absurd (omega (arith, e))))
a_flag (suc zero) lt = (true, (λ e. refl, λ e. refl))
a_flag (suc (suc x)) lt = absurd (omega (arith, lt))

-- a header ends in one place
pub one_head : (bytes x y : List ℕ) → IsHead bytes x → IsHead bytes y → x ≡ y
one_head bytes x y h k =
    let head = h.header in
    let p = parts_of bytes x h in
    let f = flags head in
    let a : (b : Bool) × (IsTrue b ↔ (f / 4 % 2 ≡ 1)) = a_flag (f / 4 % 2) (omega arith) in
    let b : (b : Bool) × (IsTrue b ↔ (f / 8 % 2 ≡ 1)) = a_flag (f / 8 % 2) (omega arith) in
    let d : (b : Bool) × (IsTrue b ↔ (f / 16 % 2 ≡ 1)) = a_flag (f / 16 % 2) (omega arith) in
    let z : (b : Bool) × (IsTrue b ↔ (f / 2 % 2 ≡ 1)) = a_flag (f / 2 % 2) (omega arith) in
    let e = extra_field head.extra in
    let n = text_field head.name in
    let c = text_field head.comment in
    let ex : IsExtraField a.0 p.behind_times e p.behind_extra = extra_due bytes p.behind_start p.behind_times head.times x f a.0 p.start p.times a.1 h in
    let na : IsTextField b.0 p.behind_extra n p.behind_name = name_due bytes p.behind_start p.behind_times head.times e p.behind_extra x f a.0 b.0 p.start p.times a.1 ex b.1 h in
    let co : IsTextField d.0 p.behind_name c p.behind_comment =
    comment_due bytes p.behind_start p.behind_times head.times e p.behind_extra n p.behind_name x f a.0 b.0 d.0 p.start p.times a.1 ex b.1 na d.1 h in
    let due : (rest : List ℕ) → IsHead bytes rest → IsChecksum z.0 (read_so_far f head.times e n c) p.behind_comment rest = λ rest w.
    checksum_due bytes p.behind_start p.behind_times head.times e p.behind_extra n p.behind_name c p.behind_comment rest f a.0 b.0 d.0 z.0 p.start p.times a.1 ex b.1 na d.1 co z.1 w in
    one_checksum z.0 (read_so_far f head.times e n c) p.behind_comment x y (due x h) (due y k)

pub one_member : (bytes t r u s : List ℕ) → IsMember bytes t r → IsMember bytes u s → (t ≡ u) × (r ≡ s)
one_member bytes t r u s h k =
    let a : IsHead bytes h.1 = record { header = h.0; is = h.2; begins = h.3 } in
    let b : IsHead bytes k.1 = record { header = k.0; is = k.2; begins = k.3 } in
    let d : Denotes k.1 t (trailer t ++ r) = subst (λ v. Denotes v t (trailer t ++ r)) (one_head bytes h.1 k.1 a b) h.4 in
    let o : (t ≡ u) × (trailer t ++ r ≡ trailer u ++ s) = one_text k.1 t (trailer t ++ r) u (trailer u ++ s) d k.4 in
    let e : trailer t ++ r ≡ trailer t ++ s = o.1 ∙ ap (λ v. trailer v ++ s) (sym o.0) in
    let w : (trailer t ≡ trailer t) × (r ≡ s) = same_fronts (trailer t) (trailer t) r s refl e in
    (o.0, w.1)

pub no_member : (bytes t r : List ℕ) → bytes ≡ [] → IsMember bytes t r → ⊥
no_member bytes t r e h =
    let a : IsHead bytes h.1 = record { header = h.0; is = h.2; begins = h.3 } in
    let p = parts_of bytes h.1 a in
    no_start bytes p.behind_start (flags h.0) p.start e

one_list : (bytes : List ℕ) (ts us : List (List ℕ)) → AreMembers bytes ts → AreMembers bytes us → ts ≡ us
unfolding AreMembers
one_list bytes [] [] h k = refl
one_list bytes [] (u ∷ us) h k = absurd (no_member bytes u k.0 h k.1)
one_list bytes (t ∷ ts) [] h k = absurd (no_member bytes t h.0 k h.1)
one_list bytes (t ∷ ts) (u ∷ us) h k =
    let o : (t ≡ u) × (h.0 ≡ k.0) = one_member bytes t h.0 u k.0 h.1 k.1 in
    ap (λ v. v ∷ ts) o.0 ∙ ap (λ v. u ∷ v) (one_list k.0 ts us (subst (λ v. AreMembers v ts) o.1 h.2) k.2)

pub one_text_of_a_file : (bytes t u : List ℕ) → IsGzip bytes t → IsGzip bytes u → t ≡ u
one_text_of_a_file bytes t u h k = h.3 ∙ ap joined (one_list bytes (h.0 ∷ h.1) (k.0 ∷ k.1) h.2 k.2) ∙ sym k.3

-- the members behind those of a front
behind_front : (front back : List ℕ) (us ts : List (List ℕ)) → AreMembers front us → AreMembers (front ++ back) ts
    → (vs : List (List ℕ)) × AreMembers back vs × (joined ts ≡ joined us ++ joined vs)
unfolding AreMembers joined
behind_front front back [] ts h k = (ts, subst (λ v. AreMembers (v ++ back) ts) h k, refl)
behind_front front back (u ∷ us) [] h k = absurd (no_member (front ++ back) u (h.0 ++ back) k (member_more front u h.0 back h.1))
behind_front front back (u ∷ us) (t ∷ ts) h k =
    let o : (u ≡ t) × (h.0 ++ back ≡ k.0) = one_member (front ++ back) u (h.0 ++ back) t k.0 (member_more front u h.0 back h.1) k.1 in
    let r : (vs : List (List ℕ)) × AreMembers back vs × (joined ts ≡ joined us ++ joined vs) = behind_front h.0 back us ts h.2 (subst (λ v. AreMembers v ts) (sym o.1) k.2) in
    (r.0, r.1, ap (λ v. t ++ v) r.2 ∙ ap (λ v. v ++ (joined us ++ joined r.0)) (sym o.0) ∙ sym (append_assoc u (joined us) (joined r.0)))

some_file : (back : List ℕ) (vs : List (List ℕ)) → AreMembers back vs → (back ≡ []) ⊎ IsGzip back (joined vs)
unfolding AreMembers
some_file back [] h = inl h
some_file back (v ∷ vs) h = inr (v, vs, h, refl)

pub cut_file : (front back t u : List ℕ) → IsGzip (front ++ back) t → IsGzip front u → (back ≡ []) ⊎ ((v : List ℕ) × IsGzip back v × (t ≡ u ++ v))
cut_file front back t u h k =
    let r : (vs : List (List ℕ)) × AreMembers back vs × (joined (h.0 ∷ h.1) ≡ joined (k.0 ∷ k.1) ++ joined vs) = behind_front front back (k.0 ∷ k.1) (h.0 ∷ h.1) k.2 h.2 in
    let e : t ≡ u ++ joined r.0 = h.3 ∙ r.2 ∙ ap (λ v. v ++ joined r.0) (sym k.3) in
    ⊎_elim (λ (z : back ≡ []). inl z) (λ (g : IsGzip back (joined r.0)). inr (joined r.0, g, e)) (some_file back r.0 r.1)

-- a member that is cut is no file
no_tail : (a b : List ℕ) → [] ≡ a ++ b → b ≡ []
no_tail [] b e = sym e
no_tail (x ∷ a) b e = absurd (let no : ⊥ = cc in no)

pub first_of : (front : List ℕ) (u : List ℕ) (us : List (List ℕ)) → AreMembers front (u ∷ us) → (rest : List ℕ) × IsMember front u rest
unfolding AreMembers
first_of front u us h = (h.0, h.1)

pub cut_member : (front back t u : List ℕ) → IsMember (front ++ back) t [] → IsGzip front u → back ≡ []
cut_member front back t u h k =
    let m : (rest : List ℕ) × IsMember front k.0 rest = first_of front k.0 k.1 k.2 in
    let o : (t ≡ k.0) × ([] ≡ m.0 ++ back) = one_member (front ++ back) t [] k.0 (m.0 ++ back) h (member_more front k.0 m.0 back m.1) in
    no_tail m.0 back o.1

-- files one behind another
members_behind : (a b : List ℕ) (ts us : List (List ℕ)) → AreMembers a ts → AreMembers b us → AreMembers (a ++ b) (ts ++ us) × (joined (ts ++ us) ≡ joined ts ++ joined us)
unfolding AreMembers joined
members_behind a b [] us h k = (subst (λ v. AreMembers (v ++ b) us) (sym h) k, refl)
members_behind a b (t ∷ ts) us h k =
    let r : AreMembers (h.0 ++ b) (ts ++ us) × (joined (ts ++ us) ≡ joined ts ++ joined us) = members_behind h.0 b ts us h.2 k in
    ((h.0 ++ b, member_more a t h.0 b h.1, r.0), ap (λ v. t ++ v) r.1 ∙ sym (append_assoc t (joined ts) (joined us)))

pub files_behind : (a b t u : List ℕ) → IsGzip a t → IsGzip b u → IsGzip (a ++ b) (t ++ u)
files_behind a b t u h k =
    let r : AreMembers (a ++ b) ((h.0 ∷ h.1) ++ (k.0 ∷ k.1)) × (joined ((h.0 ∷ h.1) ++ (k.0 ∷ k.1)) ≡ joined (h.0 ∷ h.1) ++ joined (k.0 ∷ k.1)) =
    members_behind a b (h.0 ∷ h.1) (k.0 ∷ k.1) h.2 k.2 in
    (h.0, h.1 ++ (k.0 ∷ k.1), r.0, ap (λ v. v ++ u) h.3 ∙ ap (λ v. joined (h.0 ∷ h.1) ++ v) k.3 ∙ sym r.1)
