-- A digest has no refusal, and what has none is a digest.
use Rattle.std.proofs.Common.{◌≡◌, ℕ, ◌||◌, ◌&&◌, ◌↔◌, Bool, true, false, cond, List, [], ◌∷◌, ◌++◌, Option, Some, None, length, ne_eqb, refl, sym, ap, ◌∙◌, subst, arith}
use Rattle.std.specs.Prelude.{codes, bytes_eq, ◌==◌, is_none}
use Rattle.std.specs.Option.{option_or}
use Rattle.std.specs.List.{list_all, slice_split, onto_first, fold}
use Rattle.std.proofs.lemmas.Bool.{eqb-true, eq-eqb}
use Rattle.std.proofs.lemmas.Slice.Eq.{bytes_eq-Decides}
use Rattle.oci_base.specs.Classes.{has, until, after, colon, is_lower, is_lower_hex, is_encoded_byte, is_joint, IsSomeOf}
use Rattle.oci_base.specs.Digest.{IsAlgorithm, IsSha, MeetsSha, IsDigest, component_refusal, sha_refusal, digits_refusal, encoded_refusal, digest_refusal}
use Rattle.oci_text.specs.CutDigests.{IsCutDigest}
use Rattle.oci_text.proofs.Algorithm.{step, accepts, no_colon, stuck, joint_not_lower}
use Rattle.oci_base.proofs.Marks.{has_at, first_cut, until_is}

-- The components, as the automaton sees them.
abbrev done : Option Bool → Bool
done None = false
done (Some inside) = inside

-- no component is refused
abbrev passes : List (List ℕ) → Bool
passes parts = is_none (component_refusal parts)

-- the part is not empty
abbrev some : List ℕ → Bool
some [] = false
some (b ∷ part) = true

-- the first part continues a component, or begins one
abbrev fits : Bool → List (List ℕ) → Bool
fits inside [] = false
fits inside (part ∷ parts) = (inside || some part) && (list_all is_lower part && passes parts)

-- the first component, and the others
passes_cons : (part : List ℕ) (parts : List (List ℕ)) → passes (part ∷ parts) ≡ (some part && (list_all is_lower part && passes parts))
passes_cons [] parts = refl
passes_cons (b ∷ part) parts = rw (ne_eqb (length (b ∷ part)) 0 (omega arith)) (go (list_all is_lower (b ∷ part)))
  where
    go : (all : Bool) → is_none (option_or (cond all None (Some (codes "Invalid algorithm component: " ++ b ∷ part))) (component_refusal parts)) ≡ (all && passes parts)
    go true = refl
    go false = refl

-- a text has a first part
split_some : (t : List ℕ) → (part : List ℕ) × (parts : List (List ℕ)) × (slice_split is_joint t ≡ part ∷ parts)
split_some [] = ([], [], refl)
split_some (b ∷ t) = go (is_joint b) (slice_split is_joint t)
  where
    go : (joint : Bool) (rest : List (List ℕ)) → (part : List ℕ) × (parts : List (List ℕ)) × (cond joint ([] ∷ rest) (onto_first b rest) ≡ part ∷ parts)
    go true rest = ([], rest, refl)
    go false [] = (b ∷ [], [], refl)
    go false (part ∷ parts) = (b ∷ part, parts, refl)

true-or : (x : Bool) → (x || true) ≡ true
true-or true = refl
true-or false = refl

-- the automaton and the components agree
agree : (t : List ℕ) (inside : Bool) → done (fold step (Some inside) t) ≡ fits inside (slice_split is_joint t)
agree [] true = refl
agree [] false = refl
agree (b ∷ t) inside =
    let (part, parts, e) = split_some t in
    go (is_joint b) (is_lower b) refl refl inside part parts e (agree t)
  where
    go : (joint lower : Bool) → is_joint b ≡ joint → is_lower b ≡ lower → (inside : Bool) (part : List ℕ) (parts : List (List ℕ)) → slice_split is_joint t ≡ part ∷ parts
        → ((inside : Bool) → done (fold step (Some inside) t) ≡ fits inside (slice_split is_joint t))
        → done (fold step (Some inside) (b ∷ t)) ≡ fits inside (slice_split is_joint (b ∷ t))
    go true lower j l true part parts e rec =
        rw (joint_not_lower b j, j) (rec false ∙ ap (fits false) e ∙ sym (passes_cons part parts) ∙ ap passes (sym e))
    go true lower j l false part parts e rec = rw (joint_not_lower b j, j) (ap done (stuck t))
    go false true j l inside part parts e rec = rw (j, e, l, true-or inside) (rec true ∙ ap (fits true) e)
    go false false j l inside part parts e rec = rw (j, e, l, true-or inside) (ap done (stuck t))

-- it ended inside a component
done_true : (o : Option Bool) → done o ≡ true → o ≡ Some true
done_true None e = cc e
done_true (Some inside) e = ap Some e

-- an answer that is not there
none_true : (o : Option (List ℕ)) → is_none o ≡ true → o ≡ None
none_true None e = refl
none_true (Some x) e = cc e

-- no component is refused where the automaton accepts
passes_is : (a : List ℕ) → passes (slice_split is_joint a) ≡ done (fold step (Some false) a)
passes_is a =
    let (part, parts, e) = split_some a in
    ap passes e ∙ passes_cons part parts ∙ sym (agree a false ∙ ap (fits false) e)

-- no component is refused exactly in an algorithm
algorithm_passes : (a : List ℕ) → (component_refusal (slice_split is_joint a) ≡ None) ↔ IsAlgorithm a
algorithm_passes a = (
  (λ h. (accepts a).0 (done_true (fold step (Some false) a) (sym (passes_is a) ∙ ap is_none h))),
  (λ h. none_true (component_refusal (slice_split is_joint a)) (passes_is a ∙ ap done ((accepts a).1 h))),
)

-- The encoded part.
sha_is : (n : ℕ) (e : List ℕ) → sha_refusal n e ≡ None → IsSha n e
sha_is n e h = go (length e == n) (list_all is_lower_hex e) refl refl
  where
    go : (size all : Bool) → (length e == n) ≡ size → list_all is_lower_hex e ≡ all → IsSha n e
    go true true s a = (eqb-true (length e) n s, a)
    go true false s a = let clash = rw (s, a) at h in cc clash
    go false all s a = let clash = rw s at h in cc clash

-- have none
sha_none : (n : ℕ) (e : List ℕ) → IsSha n e → sha_refusal n e ≡ None
sha_none n e h = rw (eq-eqb (length e) n h.0, h.1) refl

-- the same for each algorithm
meets : (a e : List ℕ) → digits_refusal a e ≡ None → MeetsSha a e
meets a e h = record {
  sha256 = λ is. sha_is 64 e (subst (λ z. digits_refusal z e ≡ None) is h);
  sha384 = λ is. sha_is 96 e (subst (λ z. digits_refusal z e ≡ None) is h);
  sha512 = λ is. sha_is 128 e (subst (λ z. digits_refusal z e ≡ None) is h);
}

-- and back
meets_none : (a e : List ℕ) → MeetsSha a e → digits_refusal a e ≡ None
meets_none a e m = go (bytes_eq a (codes "sha256")) (bytes_eq a (codes "sha384")) (bytes_eq a (codes "sha512")) refl refl refl
  where
    go : (x y z : Bool) → bytes_eq a (codes "sha256") ≡ x → bytes_eq a (codes "sha384") ≡ y → bytes_eq a (codes "sha512") ≡ z → digits_refusal a e ≡ None
    go true y z p q r = rw p (sha_none 64 e (m.sha256 ((bytes_eq-Decides a (codes "sha256")).0 p)))
    go false true z p q r = rw (p, q) (sha_none 96 e (m.sha384 ((bytes_eq-Decides a (codes "sha384")).0 q)))
    go false false true p q r = rw (p, q, r) (sha_none 128 e (m.sha512 ((bytes_eq-Decides a (codes "sha512")).0 r)))
    go false false false p q r = rw (p, q, r) refl

-- an encoded part without a refusal
encoded_is : (a e : List ℕ) → encoded_refusal a e ≡ None → IsSomeOf is_encoded_byte e × MeetsSha a e
encoded_is a [] h = cc h
encoded_is a (b ∷ e) h = go (list_all is_encoded_byte (b ∷ e)) refl
  where
    some' : (length (b ∷ e) == 0) ≡ false
    some' = ne_eqb (length (b ∷ e)) 0 (omega arith)

    go : (all : Bool) → list_all is_encoded_byte (b ∷ e) ≡ all → IsSomeOf is_encoded_byte (b ∷ e) × MeetsSha a (b ∷ e)
    go true k = ((omega arith, k), meets a (b ∷ e) (rw (some', k) at h))
    go false k = let clash = rw (some', k) at h in cc clash

-- has none
encoded_none : (a e : List ℕ) → IsSomeOf is_encoded_byte e → MeetsSha a e → encoded_refusal a e ≡ None
encoded_none a e h m = rw (ne_eqb (length e) 0 (omega (arith, h.0)), h.1) (meets_none a e m)

-- neither is refused
first_none : (x y : Option (List ℕ)) → option_or x y ≡ None → (x ≡ None) × (y ≡ None)
first_none None y h = (refl, h)
first_none (Some x) y h = cc h

-- a text that has none is a digest, cut at its first colon
pub digest_text : (t : List ℕ) → digest_refusal t ≡ None → IsCutDigest t
digest_text t h = go (has colon t) refl
  where
    go : (marked : Bool) → has colon t ≡ marked → IsCutDigest t
    go true k =
        let (x, y, l, s) = first_cut colon t k in
        let cut = until_is colon x y l in
        let u : until colon t ≡ x = ap (until colon) s ∙ cut.0 in
        let v : after colon t ≡ y = ap (after colon) s ∙ cut.1 in
        let none = first_none (component_refusal (slice_split is_joint (until colon t))) (encoded_refusal (until colon t) (after colon t)) (rw k at h) in
        let encoded = encoded_is (until colon t) (after colon t) none.1 in record {
          spelled = rw (u, v) s;
          is_algorithm = (algorithm_passes (until colon t)).0 none.0;
          is_encoded = encoded.0;
          meets_sha = encoded.1;
        }
    go false k = let clash = rw k at h in cc clash

-- the cut of a digest
pub digest_cut : (t a e : List ℕ) → IsDigest t a e → (until colon t ≡ a) × (after colon t ≡ e)
digest_cut t a e d =
    let cut = until_is colon a e (no_colon a d.is_algorithm) in
    (ap (until colon) d.spelled ∙ cut.0, ap (after colon) d.spelled ∙ cut.1)

-- a digest has no refusal, and what has none is a digest
pub digest_refused : (t : List ℕ) → (digest_refusal t ≡ None) ↔ ((a e : List ℕ) × IsDigest t a e)
digest_refused t = ((λ h. (until colon t, after colon t, digest_text t h)), back)
  where
    back : ((a e : List ℕ) × IsDigest t a e) → digest_refusal t ≡ None
    back (a, e, d) =
        let (u, v) = digest_cut t a e d in
        let marked : has colon t ≡ true = ap (has colon) d.spelled ∙ has_at colon a e in
        rw (marked, u, v, (algorithm_passes a).1 d.is_algorithm) (encoded_none a e d.is_encoded d.meets_sha)
