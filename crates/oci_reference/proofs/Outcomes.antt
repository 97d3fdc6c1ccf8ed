-- What an error of `limit` tells, and that each text has one outcome.
use Rattle.std.proofs.Common.{◌≡◌, ◌⊎◌, ℕ, List, [], ◌∷◌, Option, Some, None, length, refl, sym, ap, ◌∙◌, subst, inl, inr}
use Rattle.std.specs.Prelude.{nat_lt, Result, Ok, Err, IfErr, IsErrAnd, ◌==◌, codes, bytes_eq}
use Rattle.std.specs.Char.{is_ascii_uppercase}
use Rattle.std.specs.List.{list_any, fold}
use Rattle.oci_base.specs.Classes.{colon, until, after}
use Rattle.oci_base.proofs.Runs.{by_test}
use Rattle.oci_reference.specs.declared.error.ParseError.{ParseError}
use Rattle.oci_reference.specs.declared.error.ParseError.TheVariants.{DigestInvalidFormat, DigestInvalidLength, DigestUnsupported, NameContainsUppercase, NameEmpty, NameTooLong, ReferenceInvalidFormat, TagInvalidFormat, Memory}
use Rattle.oci_reference.specs.declared.scanner.places.Places.{Places}
use Rattle.oci_reference.specs.Reference.{IsReference}
use Rattle.oci_reference.specs.Scanner.{start, step, found, places}
use Rattle.oci_reference.specs.Accepted.{Accepted, Refused, Tells, parts_of, limit, digest_limit}
use Rattle.oci_reference.specs.Names.{default_name}
use Rattle.oci_reference.specs.Parts.{Parts}
use Rattle.oci_reference.proofs.Complete.{holds}
use Rattle.oci_reference.proofs.Found.{held, held_reads}
use Rattle.oci_reference.proofs.Readings.{reading_once}

-- the errors of a limit
abbrev OfLimit : Option ParseError → Type 0
OfLimit None = Unit {0}
OfLimit (Some DigestInvalidFormat) = ⊥
OfLimit (Some DigestInvalidLength) = Unit {0}
OfLimit (Some DigestUnsupported) = Unit {0}
OfLimit (Some NameContainsUppercase) = Unit {0}
OfLimit (Some NameEmpty) = ⊥
OfLimit (Some NameTooLong) = Unit {0}
OfLimit (Some ReferenceInvalidFormat) = ⊥
OfLimit (Some TagInvalidFormat) = ⊥
OfLimit (Some Memory) = ⊥

-- what the digest is refused for
of_digest : (d : Option (List ℕ)) → OfLimit (digest_limit d)
of_digest None = tt
of_digest (Some d) =
    by_test OfLimit (bytes_eq (until colon d) (codes "sha256")) _ _ (λ _. by_test OfLimit (length (after colon d) == 64) _ _ (λ _. tt) (λ _. tt))
    (λ _. by_test OfLimit (bytes_eq (until colon d) (codes "sha384")) _ _ (λ _. by_test OfLimit (length (after colon d) == 96) _ _ (λ _. tt) (λ _. tt))
    (λ _. by_test OfLimit (bytes_eq (until colon d) (codes "sha512")) _ _ (λ _. by_test OfLimit (length (after colon d) == 128) _ _ (λ _. tt) (λ _. tt)) (λ _. tt)))

-- what repository and digest are refused for
of_limit : (r : List ℕ) (d : Option (List ℕ)) → OfLimit (limit r d)
of_limit r d =
    by_test OfLimit (list_any is_ascii_uppercase r) _ _ (λ _. tt)
    (λ _. by_test OfLimit (nat_lt 255 (length r)) _ _ (λ _. tt) (λ _. of_digest d))

-- what `limit` answers tells why the text is refused
pub tells : (t n : List ℕ) (g d : Option (List ℕ)) → IsReference t n g d → (e : ParseError) → limit (default_name n).1 d ≡ Some e → Tells t e
tells t n g d r DigestInvalidFormat h = absurd (subst OfLimit h (of_limit (default_name n).1 d))
tells t n g d r DigestInvalidLength h = inr (inr (n, g, d, r, h))
tells t n g d r DigestUnsupported h = inr (inr (n, g, d, r, h))
tells t n g d r NameContainsUppercase h = inr (inr (n, g, d, r, h))
tells t n g d r NameEmpty h = absurd (subst OfLimit h (of_limit (default_name n).1 d))
tells t n g d r NameTooLong h = inr (inr (n, g, d, r, h))
tells t n g d r ReferenceInvalidFormat h = absurd (subst OfLimit h (of_limit (default_name n).1 d))
tells t n g d r TagInvalidFormat h = absurd (subst OfLimit h (of_limit (default_name n).1 d))
tells t n g d r Memory h = absurd (subst OfLimit h (of_limit (default_name n).1 d))

-- a reference within the limits is accepted
pub accepted : (t n : List ℕ) (g d : Option (List ℕ)) → IsReference t n g d → limit (default_name n).1 d ≡ None → Accepted t (parts_of n g d)
accepted t n g d r h = record { name = n; tag = g; digest = d; reading = r; within = h; are = refl }

-- what holds of `Memory` holds of an error that is it
pub by_memory : {A : Type 0} (r : Result A ParseError) (P : ParseError → Type 0) → P Memory → IsErrAnd r (λ e. e ≡ Memory) → IfErr r P
by_memory (Ok x) P h k = tt
by_memory (Err e) P h k = subst P (sym k) h

-- Each text has an outcome.
abbrev Outcome : List ℕ → Type 0
Outcome t = ((r : Parts) × Accepted t r) ⊎ ((e : ParseError) × Refused t e)

-- a text without places is refused
unread : (t : List ℕ) → found (fold step start t) ≡ None → Outcome t
unread [] h = inr (NameEmpty, inl (refl, refl))
unread (b ∷ t) h = inr (ReferenceInvalidFormat, inr (inl ((λ e. cc e), refl, (λ n g d r. let clash : None ≡ Some (places n g d) = sym h ∙ held (fold step start (b ∷ t)) (b ∷ t) n g d refl r in cc clash))))

-- each text is accepted or refused
pub outcome : (t : List ℕ) → Outcome t
outcome t = go (found (fold step start t)) refl
  where
    within : (n : List ℕ) (g d : Option (List ℕ)) → IsReference t n g d → (o : Option ParseError) → limit (default_name n).1 d ≡ o → Outcome t
    within n g d r None h = inl (parts_of n g d, accepted t n g d r h)
    within n g d r (Some e) h = inr (e, inr (inr (n, g, d, r, h)))

    go : (o : Option Places) → found (fold step start t) ≡ o → Outcome t
    go None h = unread t h
    go (Some p) h =
        let (n, g, d, r, e) = held_reads (fold step start t) t p refl h in
        within n g d r (limit (default_name n).1 d) refl

-- A text has no other outcome.
empty_unread : (t n : List ℕ) (g d : Option (List ℕ)) → t ≡ [] → IsReference t n g d → ⊥
empty_unread t n g d empty r =
    let clash : None ≡ Some (places n g d) = ap (λ z. found (fold step start z)) (sym empty) ∙ holds t n g d r in cc clash

-- a text is accepted as one reference
pub accepted_once : (t : List ℕ) (r r' : Parts) → Accepted t r → Accepted t r' → r ≡ r'
accepted_once t r r' a a' =
    let (n, g, d) = reading_once t a.name a'.name a.tag a'.tag a.digest a'.digest a.reading a'.reading in
    a.are ∙ rw (n, g, d) (sym a'.are)

-- an accepted text is not refused
pub not_both : (t : List ℕ) (r : Parts) (e : ParseError) → Accepted t r → Refused t e → ⊥
not_both t r e a (inl (empty, _)) = empty_unread t a.name a.tag a.digest empty a.reading
not_both t r e a (inr (inl (_, _, none))) = none a.name a.tag a.digest a.reading
not_both t r e a (inr (inr (n', g', d', r', over))) =
    let (n, g, d) = reading_once t a.name n' a.tag g' a.digest d' a.reading r' in
    let clash : None ≡ Some e = sym a.within ∙ rw (n, d) over in
    cc clash

-- a text is refused for one reason
pub one_reason : (t : List ℕ) (e e' : ParseError) → Refused t e → Refused t e' → e ≡ e'
one_reason t e e' (inl (_, h)) (inl (_, h')) = h ∙ sym h'
one_reason t e e' (inl (empty, _)) (inr (inl (some, _, _))) = absurd (some empty)
one_reason t e e' (inl (empty, _)) (inr (inr (n, g, d, r, _))) = absurd (empty_unread t n g d empty r)
one_reason t e e' (inr (inl (some, _, _))) (inl (empty, _)) = absurd (some empty)
one_reason t e e' (inr (inl (_, h, _))) (inr (inl (_, h', _))) = h ∙ sym h'
one_reason t e e' (inr (inl (_, _, none))) (inr (inr (n, g, d, r, _))) = absurd (none n g d r)
one_reason t e e' (inr (inr (n, g, d, r, _))) (inl (empty, _)) = absurd (empty_unread t n g d empty r)
one_reason t e e' (inr (inr (n, g, d, r, _))) (inr (inl (_, _, none))) = absurd (none n g d r)
one_reason t e e' (inr (inr (n, g, d, r, over))) (inr (inr (n', g', d', r', over'))) =
    let (same_name, same_tag, same_digest) = reading_once t n n' g g' d d' r r' in
    let same : Some e ≡ Some e' = sym over ∙ rw (same_name, same_digest) over' in
    cc same
