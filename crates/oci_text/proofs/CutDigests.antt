-- A digest is one that is cut at its first colon, and has no other reading.
use Rattle.std.proofs.Common.{◌≡◌, ℕ, List, ◌∷◌, ◌+◌, drop, length, Some, Result, Ok, Err, sym, ap, ◌∙◌, subst}
use Rattle.std.proofs.Math.Seq.{drop-append-add}
use Rattle.std.specs.Result.{IfOk}
use Rattle.serde_json.specs.Data.{Data}
use Rattle.serde_json.specs.Find.{as_str}
use Rattle.oci_model.specs.Means.{Means}
use Rattle.oci_model.specs.Plain as plain
use Rattle.oci_model.specs.Shape as shape
use Rattle.oci_base.specs.declared.error.OciSpecError.{OciSpecError}
use Rattle.oci_base.specs.Classes.{until, after, colon}
use Rattle.oci_base.specs.Digest.{IsDigest, IsDigestText}
use Rattle.oci_base.specs.Names.{Name, opened}
use Rattle.oci_text.specs.CutDigests.{IsCutDigest}
use Rattle.oci_text.proofs.Refusals.{digest_cut, digest_refused, digest_text}

pub is_some_digest : (t : List ℕ) → IsCutDigest t → IsDigestText t
is_some_digest t h = (until colon t, after colon t, h)

-- a copy of a digest's text
pub is_cut : (t copy : List ℕ) → copy ≡ t → IsDigestText t → IsCutDigest copy
is_cut t copy same h = subst IsCutDigest (sym same) (digest_text t ((digest_refused t).1 h))

-- what is said of the part before the first colon is said of each reading's algorithm
pub of_algorithm : (table : List (List ℕ)) (n : Name) (t : List ℕ) → n ≡ opened table (until colon t) → (a e : List ℕ) → IsDigest t a e → n ≡ opened table a
of_algorithm table n t named a e d = named ∙ ap (opened table) (digest_cut t a e d).0

-- and what stands behind the first colon is its encoded part
pub of_encoded : (t rest : List ℕ) (split : ℕ) → split ≡ length (until colon t) → rest ≡ drop (split + 1) t → (a e : List ℕ) → IsDigest t a e → rest ≡ e
of_encoded t rest split at is a e d =
    let same : split ≡ length a = at ∙ ap length (digest_cut t a e d).0 in
    is ∙ ap (λ i. drop (i + 1) t) same ∙ ap (drop (length a + 1)) d.spelled ∙ drop-append-add a (colon ∷ e) 1

-- a digest of the text that stands there is what the text means
pub digest_means : (t : List ℕ) (d : Data) (r : Result (List ℕ) OciSpecError) → Some t ≡ as_str d → IsDigestText t → IfOk r (λ x. x ≡ t) → IfOk r (λ x. Means shape.digest_text d (plain.text x))
digest_means t d (Ok x) found is told = let same : x ≡ t = told in (t, sym found, ap plain.text same, is)
digest_means t d (Err e) found is told = tt
