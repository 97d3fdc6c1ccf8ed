-- A scanner that stands after a text holds places exactly where the text is a reference.
use Rattle.std.proofs.Common.{◌≡◌, ℕ, true, List, [], ◌∷◌, Option, Some, None, length, refl, sym, ap, ◌∙◌, arith}
use Rattle.std.specs.List.{fold}
use Rattle.std.proofs.lemmas.Bool.{eqb-true}
use Rattle.oci_reference.specs.declared.scanner.digest.DigestState.{DigestState}
use Rattle.oci_reference.specs.declared.scanner.digest.DigestState.TheVariants.{BeforeWord, InWord, InDigits, NoDigest}
use Rattle.oci_reference.specs.declared.scanner.places.Places.{Places}
use Rattle.oci_reference.specs.declared.scanner.Scanner.{Scanner}
use Rattle.oci_reference.specs.Reference.{IsReference}
use Rattle.oci_reference.specs.Scanner.{ends_name, ends_tag, ends_digest, start, step, found, places, Stands}
use Rattle.oci_base.proofs.Runs.{by_test}
use Rattle.oci_reference.proofs.Grows.{named, digested}
use Rattle.oci_reference.proofs.Sound.{DigestSays, Says, says, path_whole, tag_whole}
use Rattle.oci_reference.proofs.Complete.{holds, count_of}

-- the text is a reference
abbrev pub Reads : List ℕ → Type 0
Reads t = (n : List ℕ) × (g : Option (List ℕ)) × (d : Option (List ℕ)) × IsReference t n g d

-- where the digest is whole, the text is a reference
digest_whole : (d : DigestState) (t : List ℕ) → DigestSays d t → ends_digest d ≡ true → Reads t
digest_whole BeforeWord t d e = cc e
digest_whole InWord t d e = cc e
digest_whole (InDigits k) t d e =
    let (u, n, g, x, r, spelled, digits) = d in
    let (a, h, words, hex, many, parts) = digits in
    let all : k ≡ 32 = eqb-true k 32 e in
    (n, g, Some x, digested t u n x g spelled r (record { algorithm = a; digits = h; is_algorithm = words; are_digits = hex; many = omega arith; spelled = parts }))
digest_whole NoDigest t d e = cc e

-- where places are found, the text is a reference
reads : (s : Scanner) (t : List ℕ) (p : Places) → Says s t → found s ≡ Some p → Reads t
reads s t p d =
    let P : Option Places → Type 0 = λ o. o ≡ Some p → Reads t in
    by_test P (ends_name s.path) _ _ (λ h _. (t, None, None, named t (path_whole s.path t d.path h)))
    (λ _. by_test P (ends_tag s.tag) _ _ (λ h _. let (n, g, r) = tag_whole s.tag t d.tag h in (n, Some g, None, r))
    (λ _. by_test P (ends_digest s.digest) _ _ (λ h _. digest_whole s.digest t d.digest h) (λ _ e. cc e)))

-- the places of a reference are found
pub held : (s : Scanner) (t : List ℕ) (n : List ℕ) (g d : Option (List ℕ)) → Stands s t → IsReference t n g d → found s ≡ Some (places n g d)
held s t n g d e r = ap found e ∙ holds t n g d r

-- the places that are found are those of a reference
pub held_reads : (s : Scanner) (t : List ℕ) (p : Places) → Stands s t → found s ≡ Some p
    → (n : List ℕ) × (g : Option (List ℕ)) × (d : Option (List ℕ)) × IsReference t n g d × (p ≡ places n g d)
held_reads s t p e h =
    let (n, g, d, r) = reads (fold step start t) t p (says t) (sym (ap found e) ∙ h) in
    let same : Some p ≡ Some (places n g d) = sym h ∙ held s t n g d e r in
    (n, g, d, r, cc same)

-- the count is the length of the text
pub stood_count : (s : Scanner) (t : List ℕ) → Stands s t → s.count ≡ length t
stood_count s t e = ap (λ z. z.count) e ∙ count_of t

-- a text of length 0 is empty
pub empty_text : (t : List ℕ) → length t ≡ 0 → t ≡ []
empty_text [] h = refl
empty_text (b ∷ t) h = absurd (omega arith)
