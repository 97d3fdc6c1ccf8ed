-- A reference is ASCII, and its parts lie at their places.
use Rattle.std.proofs.Common.{◌≡◌, ◌≢◌, ℕ, zero, suc, ◌+◌, ◌-◌, ◌<◌, ◌≤◌, List, [], ◌∷◌, ◌++◌, Option, Some, None, length, take, drop, get_or, take_all, refl, sym, ap, ◌∙◌, subst, inl, inr, append_assoc, append-nil, length-append, arith}
use Rattle.std.specs.Prelude.{IfSome, IsAscii, slice_range}
use Rattle.std.specs.Char.{is_ascii_alphanumeric, is_ascii_alphabetic, is_ascii_hexdigit}
use Rattle.std.specs.List.{fold}
use Rattle.std.proofs.lemmas.Bool.{cases_lt}
use Rattle.std.proofs.Math.Seq.{take-append_seam, drop-append_seam}
use Rattle.std.proofs.lemmas.List.{length-take-le}
use Rattle.oci_reference.specs.declared.scanner.Scanner.{Scanner}
use Rattle.oci_reference.specs.declared.scanner.places.Places.{Places}
use Rattle.oci_base.specs.Classes.{slash, colon, at_sign, is_joint, IsOneOf, behind}
use Rattle.oci_reference.specs.Reference.{IsName, IsTag, IsWord, IsRefDigest, IsReference}
use Rattle.oci_reference.specs.Scanner.{start, step, Stands, places, place_behind, end_behind}
use Rattle.oci_reference.specs.Pieces.{cut_at}
use Rattle.oci_base.proofs.Lacks.{Lacks, lacks_in, lacks_one, lacks_append, lacks_joined}
use Rattle.oci_reference.proofs.Readings.{lacks_path, lacks_domain, lacks_tag}
use Rattle.oci_reference.proofs.Found.{stood_count}
use Rattle.oci_reference.proofs.Complete.{length_front}

-- behind the first i bytes the count is i
pub stood_index : (s : Scanner) (items : List ℕ) (i : ℕ) → Stands s (take i items) → i ≤ length items → s.count ≡ i
stood_index s items i h le = stood_count s (take i items) h ∙ length-take-le i items le

-- behind all bytes the scanner stands after the text
pub stood_whole : (s : Scanner) (items text : List ℕ) (i : ℕ) → Stands s (take i items) → length items ≤ i → items ≡ text → Stands s text
stood_whole s items text i h le e = h ∙ ap (fold step start) (take_all i items le ∙ e)

-- No byte past 127.
module _ (c : ℕ) (big : 128 ≤ c) where
  -- a name has no such byte
  lacks_name : (n : List ℕ) → IsName n → Lacks c n
  lacks_name n (inl path) = lacks_path c (omega arith) (omega arith) (omega arith) (omega arith) (grind arith) n path
  lacks_name n (inr h) =
      subst (Lacks c) (sym h.spelled) (lacks_append c h.domain (slash ∷ h.path)
      (lacks_domain c (omega arith) (grind arith) (grind arith) (grind arith) (omega arith) h.domain h.is_domain)
      (omega arith, lacks_path c (omega arith) (omega arith) (omega arith) (omega arith) (grind arith) h.path h.is_path))

  -- a word of an algorithm has no such byte
  lacks_word : (w : List ℕ) → IsWord w → Lacks c w
  lacks_word w h =
      subst (Lacks c) (sym h.spelled) (lacks_append c h.first h.rest
      (lacks_one is_ascii_alphabetic c (grind arith) h.first h.is_first) (lacks_in is_ascii_alphanumeric c (grind arith) h.rest h.are_rest))

  -- a digest has no such byte
  lacks_ref_digest : (d : List ℕ) → IsRefDigest d → Lacks c d
  lacks_ref_digest d h =
      subst (Lacks c) (sym h.spelled) (lacks_append c h.algorithm (colon ∷ h.digits)
      (lacks_joined c (IsOneOf is_joint) IsWord (lacks_one is_joint c (grind arith)) lacks_word h.algorithm h.is_algorithm)
      (omega arith, lacks_in is_ascii_hexdigit c (grind arith) h.digits h.are_digits))

  -- a part behind its mark has no such byte
  lacks_behind : (mark : ℕ) (part : Option (List ℕ)) → mark ≢ c → IfSome part (Lacks c) → Lacks c (behind mark part)
  lacks_behind mark None h k = tt
  lacks_behind mark (Some part) h k = (h, k)

  -- a tag has no such byte
  some_tag : (g : Option (List ℕ)) → IfSome g IsTag → IfSome g (Lacks c)
  some_tag None h = tt
  some_tag (Some g) h = lacks_tag c (grind arith) (grind arith) g h

  -- a digest, if there is one, has no such byte
  some_digest : (d : Option (List ℕ)) → IfSome d IsRefDigest → IfSome d (Lacks c)
  some_digest None h = tt
  some_digest (Some d) h = lacks_ref_digest d h

  -- a reference has no such byte
  lacks_reference : (t n : List ℕ) (g d : Option (List ℕ)) → IsReference t n g d → Lacks c t
  lacks_reference t n g d r =
      subst (Lacks c) (sym r.spelled) (lacks_append c (n ++ behind colon g) (behind at_sign d)
      (lacks_append c n (behind colon g) (lacks_name n r.is_name) (lacks_behind colon g (omega arith) (some_tag g r.is_tag)))
      (lacks_behind at_sign d (omega arith) (some_digest d r.is_digest)))

-- a text that lacks all bytes from 128 on has bytes below 128
below : (t : List ℕ) → ((c : ℕ) → 128 ≤ c → Lacks c t) → (i : ℕ) → get_or t i 0 < 128
below [] h i = omega arith
below (b ∷ t) h zero = elim (cases_lt b 128) [ inl lt ↦ lt | inr ge ↦ absurd ((h b ge).0 refl) ]
below (b ∷ t) h (suc i) = below t (λ c big. (h c big).1) i

-- a reference is ASCII
pub reference_ascii : (t n : List ℕ) (g d : Option (List ℕ)) → IsReference t n g d → IsAscii t
reference_ascii t n g d r = below t (λ c big. lacks_reference c big t n g d r)

-- The slices.
slice_at : (t x y z : List ℕ) (a b : ℕ) → t ≡ x ++ (y ++ z) → a ≡ length x → b ≡ a + length y → slice_range t a b ≡ y
slice_at t x y z a b e begins ends =
    let size : b - a ≡ length y = omega arith in
    let rest : drop a t ≡ y ++ z = ap (λ k. drop k t) begins ∙ ap (drop (length x)) e ∙ drop-append_seam x (y ++ z) in
    ap (λ k. take k (drop a t)) size ∙ ap (take (length y)) rest ∙ take-append_seam y z

-- the name lies at its place
pub name_slice : (t n : List ℕ) (g d : Option (List ℕ)) → IsReference t n g d → slice_range t 0 (length n) ≡ n
name_slice t n g d r =
    slice_at t [] n (behind colon g ++ behind at_sign d) 0 (length n) (r.spelled ∙ append_assoc n (behind colon g) (behind at_sign d)) refl (omega arith)

-- the tag lies at its place
pub tag_slice : (t n : List ℕ) (g d : Option (List ℕ)) → IsReference t n g d → cut_at t (place_behind (length n) g) ≡ g
tag_slice t n None d r = refl
tag_slice t n (Some g) d r =
    let regrouped : (n ++ colon ∷ g) ++ behind at_sign d ≡ (n ++ colon ∷ []) ++ (g ++ behind at_sign d) = simp append_assoc in
    ap Some (slice_at t (n ++ colon ∷ []) g (behind at_sign d) (length n + 1) (length n + 1 + length g) (r.spelled ∙ regrouped)
    (omega (arith, length-append n (colon ∷ []))) refl)

-- the digest lies at its place
pub digest_slice : (t n : List ℕ) (g d : Option (List ℕ)) → IsReference t n g d → cut_at t (place_behind (end_behind (length n) g) d) ≡ d
digest_slice t n g None r = refl
digest_slice t n g (Some d) r =
    let u = n ++ behind colon g in
    let regrouped : u ++ at_sign ∷ d ≡ (u ++ at_sign ∷ []) ++ (d ++ []) = ap (λ z. u ++ at_sign ∷ z) (sym (append-nil d)) ∙ sym (append_assoc u (at_sign ∷ []) (d ++ [])) in
    ap Some (slice_at t (u ++ at_sign ∷ []) d [] (end_behind (length n) g + 1) (end_behind (length n) g + 1 + length d) (r.spelled ∙ regrouped)
    (omega (arith, length_front n g, length-append u (at_sign ∷ []))) refl)

-- what lies at the places are the parts
pub pieces : (t n : List ℕ) (g d : Option (List ℕ)) (p : Places) → IsReference t n g d → p ≡ places n g d
    → IsReference t (slice_range t 0 p.name) (cut_at t p.tag) (cut_at t p.digest)
pieces t n g d p r e =
    subst (λ z. IsReference t (slice_range t 0 z.name) (cut_at t z.tag) (cut_at t z.digest)) (sym e)
    (rw (name_slice t n g d r, tag_slice t n g d r, digest_slice t n g d r) r)
