-- When the whole text of an accepted reference with another digest is accepted, and as what.
use Rattle.std.proofs.Common.{◌≡◌, ◌≤◌, ◌↔◌, ℕ, true, List, [], ◌∷◌, ◌++◌, Option, Some, None, length, refl, sym, ap, ◌∙◌, subst, inl, inr, arith}
use Rattle.std.specs.Prelude.{nat_lt, codes, bytes_eq}
use Rattle.std.specs.Char.{is_ascii_hexdigit, is_ascii_uppercase}
use Rattle.std.specs.List.{list_all, list_any}
use Rattle.std.proofs.lemmas.Slice.Eq.{bytes_eq-Decides}
use Rattle.oci_base.specs.Classes.{slash, colon, at_sign, until, is_lower, is_lower_hex, is_joint, behind, IsIn, IsSomeOf, IsOneOf, one}
use Rattle.oci_base.specs.Digest.{IsDigest}
use Rattle.oci_base.proofs.Lacks.{both, lacks_one, lacks_some, lacks_joined}
use Rattle.oci_base.proofs.Marks.{until_is}
use Rattle.oci_base.proofs.Runs.{by_test}
use Rattle.oci_reference.specs.declared.error.ParseError.{ParseError}
use Rattle.oci_reference.specs.Reference.{IsWord, IsRefDigest, IsReference}
use Rattle.oci_reference.proofs.Readings.{split_once}
use Rattle.oci_reference.specs.Accepted.{Accepted, parts_of, limit, digest_limit}
use Rattle.oci_reference.specs.Names.{default_name}
use Rattle.oci_reference.specs.Parts.{Parts}
use Rattle.oci_reference.specs.Replaced.{pinned, IsSupported}
use Rattle.oci_reference.specs.Whole.{whole}
use Rattle.oci_reference.proofs.Canonical.{Renames, renames, limit_lower, whole_is}

-- each supported algorithm is a word
supported_word : (a : List ℕ) → IsSupported a → IsWord a
supported_word a (inl e) = subst IsWord (sym e) (record { first = codes "s"; rest = codes "ha256"; is_first = (115, refl, refl); are_rest = refl; spelled = refl })
supported_word a (inr (inl e)) = subst IsWord (sym e) (record { first = codes "s"; rest = codes "ha384"; is_first = (115, refl, refl); are_rest = refl; spelled = refl })
supported_word a (inr (inr e)) = subst IsWord (sym e) (record { first = codes "s"; rest = codes "ha512"; is_first = (115, refl, refl); are_rest = refl; spelled = refl })

-- a lowercase hexadecimal digit is one
lower_hex : (b : ℕ) → is_lower_hex b ≡ true → is_ascii_hexdigit b ≡ true
lower_hex b h = grind arith

-- lowercase hexadecimal digits are hexadecimal digits
lower_digits : (e : List ℕ) → IsIn is_lower_hex e → IsIn is_ascii_hexdigit e
lower_digits [] h = refl
lower_digits (b ∷ e) h =
    let parts = both (is_lower_hex b) (list_all is_lower_hex e) h in
    rw (lower_hex b parts.0) (lower_digits e parts.1)

-- what a digest by a supported algorithm meets: the grammar's digits, and the limit
abbrev Fits : List ℕ → List ℕ → Type 0
Fits a e = IsIn is_ascii_hexdigit e × (32 ≤ length e) × (digest_limit (Some (a ++ colon ∷ e)) ≡ None)

-- a digest by a supported algorithm
fits : (d a e : List ℕ) → IsDigest d a e → IsSupported a → Fits a e
fits d a e h (inl s) =
    let (long, hex) = h.meets_sha.sha256 s in
    let within : digest_limit (Some (codes "sha256" ++ colon ∷ e)) ≡ None = rw long refl in
    (lower_digits e hex, omega (arith, long), subst (λ z. digest_limit (Some (z ++ colon ∷ e)) ≡ None) (sym s) within)
fits d a e h (inr (inl s)) =
    let (long, hex) = h.meets_sha.sha384 s in
    let within : digest_limit (Some (codes "sha384" ++ colon ∷ e)) ≡ None = rw long refl in
    (lower_digits e hex, omega (arith, long), subst (λ z. digest_limit (Some (z ++ colon ∷ e)) ≡ None) (sym s) within)
fits d a e h (inr (inr s)) =
    let (long, hex) = h.meets_sha.sha512 s in
    let within : digest_limit (Some (codes "sha512" ++ colon ∷ e)) ≡ None = rw long refl in
    (lower_digits e hex, omega (arith, long), subst (λ z. digest_limit (Some (z ++ colon ∷ e)) ≡ None) (sym s) within)

-- such a digest is one of the reference grammar
fits_grammar : (d a e : List ℕ) → IsDigest d a e → IsSupported a → IsRefDigest d
fits_grammar d a e h s =
    let (hex, long, _) = fits d a e h s in
    record { algorithm = a; digits = e; is_algorithm = one a (supported_word a s); are_digits = hex; many = long; spelled = h.spelled }

-- a digest within the limit is by a supported algorithm
within_supported : (d : List ℕ) → digest_limit (Some d) ≡ None → IsSupported (until colon d)
within_supported d =
    let P : Option ParseError → Type 0 = λ o. o ≡ None → IsSupported (until colon d) in
    by_test P (bytes_eq (until colon d) (codes "sha256")) _ _ (λ is _. inl ((bytes_eq-Decides (until colon d) (codes "sha256")).0 is))
    (λ _. by_test P (bytes_eq (until colon d) (codes "sha384")) _ _ (λ is _. inr (inl ((bytes_eq-Decides (until colon d) (codes "sha384")).0 is)))
    (λ _. by_test P (bytes_eq (until colon d) (codes "sha512")) _ _ (λ is _. inr (inr ((bytes_eq-Decides (until colon d) (codes "sha512")).0 is)))
    (λ _ clash. cc clash)))

-- an algorithm stands before the first colon
algorithm_is : (d a e : List ℕ) → IsDigest d a e → until colon d ≡ a
algorithm_is d a e h =
    let lacks = lacks_joined colon (IsOneOf is_joint) (IsSomeOf is_lower) (lacks_one is_joint colon refl) (lacks_some is_lower colon refl) a h.is_algorithm in
    ap (until colon) h.spelled ∙ (until_is colon a e lacks).0

-- where a repository is within its limits, the digest alone decides
digest_decides : (y : List ℕ) (d d' : Option (List ℕ)) → limit y d ≡ None → limit y d' ≡ digest_limit d'
digest_decides y d d' =
    let P : Option ParseError → Type 0 = λ o. o ≡ None → limit y d' ≡ digest_limit d' in
    by_test P (list_any is_ascii_uppercase y) _ _ (λ _ clash. cc clash)
    (λ low. by_test P (nat_lt 255 (length y)) _ _ (λ _ clash. cc clash) (λ short _. rw (low, short) refl))

-- a limit that is kept by equal names and digests
limit_moved : (n n' : List ℕ) (d d' : Option (List ℕ)) → n ≡ n' → d ≡ d' → limit (default_name n').1 d' ≡ None → limit (default_name n).1 d ≡ None
limit_moved n n' d d' e k h = subst (λ z. limit (default_name z).1 d ≡ None) (sym e) (subst (λ z. limit (default_name n').1 z ≡ None) (sym k) h)

-- the parts of equal names, tags and digests
parts_moved : (n n' : List ℕ) (g g' d d' : Option (List ℕ)) → n ≡ n' → g ≡ g' → d ≡ d' → parts_of n' g' d' ≡ parts_of n g d
parts_moved n n' g g' d d' e f k = rw (e, f, k) refl

-- An accepted reference, its tag and digest replaced by a digest.
module _ (t n : List ℕ) (g d : Option (List ℕ)) (reading : IsReference t n g d) (within : limit (default_name n).1 d ≡ None) where
  names : Renames (default_name n)
  names = renames n reading.is_name (limit_lower (default_name n).1 d within)

  -- its name, as the whole text spells it
  abbrev name : List ℕ
  name = (default_name n).0 ++ slash ∷ (default_name n).1

  -- its whole text
  spelled : (x : List ℕ) → whole (pinned (parts_of n g d) x) ≡ name ++ behind colon None ++ behind at_sign (Some x)
  spelled x = whole_is (default_name n).0 (default_name n).1 None (Some x) None names.some_registry names.some_repository

  -- it is the reference of that name and the digest
  parts_are : (x : List ℕ) → parts_of name None (Some x) ≡ pinned (parts_of n g d) x
  parts_are x = rw names.same refl

  -- it is accepted as itself where the algorithm is supported
  accepted_parts : (x a e : List ℕ) → IsDigest x a e → IsSupported a → Accepted (whole (pinned (parts_of n g d) x)) (pinned (parts_of n g d) x)
  accepted_parts x a e h s = record {
    name = name;
    tag = None;
    digest = Some x;
    reading = record {
      spelled = spelled x;
      is_name = names.is_name;
      is_tag = tt;
      is_digest = fits_grammar x a e h s;
    };
    within = subst (λ z. limit z.1 (Some x) ≡ None) (sym names.same)
        (digest_decides (default_name n).1 d (Some x) within ∙ ap (λ z. digest_limit (Some z)) h.spelled ∙ (fits x a e h s).2);
    are = sym (parts_are x);
  }

  -- what its whole text is read as
  read_parts : (x : List ℕ) (q : Parts) → Accepted (whole (pinned (parts_of n g d) x)) q → (q ≡ pinned (parts_of n g d) x) × (digest_limit (Some x) ≡ None)
  read_parts x q b =
      let (same_name, same_tag, same_digest) =
      split_once name b.name None b.tag (Some x) b.digest names.is_name b.reading.is_name tt b.reading.is_tag (sym (spelled x) ∙ b.reading.spelled) in
      let kept : limit (default_name n).1 (Some x) ≡ None =
      subst (λ z. limit z.1 (Some x) ≡ None) names.same (limit_moved name b.name (Some x) b.digest same_name same_digest b.within) in (
        b.are ∙ parts_moved name b.name None b.tag (Some x) b.digest same_name same_tag same_digest ∙ parts_are x,
        sym (digest_decides (default_name n).1 d (Some x) within) ∙ kept,
      )

-- an accepted reference with another digest is accepted exactly if the digest's algorithm is supported
pub replaced_accepted : (t d a e : List ℕ) (r : Parts) → Accepted t r → IsDigest d a e → ((q : Parts) × Accepted (whole (pinned r d)) q) ↔ IsSupported a
replaced_accepted t d a e r b h =
    let all : ((q : Parts) × Accepted (whole (pinned (parts_of b.name b.tag b.digest) d)) q) ↔ IsSupported a = (
      (λ found. let (q, read) = found in
          subst IsSupported (algorithm_is d a e h) (within_supported d (read_parts t b.name b.tag b.digest b.reading b.within d q read).1)),
      (λ s. (pinned (parts_of b.name b.tag b.digest) d, accepted_parts t b.name b.tag b.digest b.reading b.within d a e h s)),
    ) in
    subst (λ z. ((q : Parts) × Accepted (whole (pinned z d)) q) ↔ IsSupported a) (sym b.are) all

-- it is accepted as no other
pub replaced_same : (t d : List ℕ) (r q : Parts) → Accepted t r → Accepted (whole (pinned r d)) q → q ≡ pinned r d
replaced_same t d r q b read =
    let here : Accepted (whole (pinned (parts_of b.name b.tag b.digest) d)) q = subst (λ z. Accepted (whole (pinned z d)) q) b.are read in
    (read_parts t b.name b.tag b.digest b.reading b.within d q here).0 ∙ ap (λ z. pinned z d) (sym b.are)
