-- Values that mean nothing: of another kind than their shape allows, or out of its range.
use Rattle.std.proofs.Common.{◌≡◌, List, ℕ, ℤ, pos, arith, Some, None, refl, ◌∙◌, sym, subst}
use Rattle.std.specs.Prelude.{◌≤ℤ◌, ◌<ℤ◌, ◌+ℤ◌}
use Rattle.std.proofs.lemmas.Int.{ints}
use Rattle.serde_json.specs.Data.{Data}
use Rattle.serde_json.specs.Find.{as_bool, as_str}
use Rattle.oci_base.specs.Digest.{IsDigestText}
use Rattle.oci_model.specs.Shape.{text, truth, whole, open_name, digest_text}
use Rattle.oci_model.specs.Means.{as_whole}
use Rattle.oci_model.specs.Refused.{IsRefused}

pub not_text : (d : Data) → None ≡ as_str d → IsRefused text d
unfolding IsRefused
not_text d e p m = let k = e ∙ m.1 in cc

pub not_truth : (d : Data) → None ≡ as_bool d → IsRefused truth d
unfolding IsRefused
not_truth d e p m = let k = e ∙ m.1 in cc

pub not_whole : (low high : ℤ) (d : Data) → None ≡ as_whole d → IsRefused (whole low high) d
unfolding IsRefused
not_whole low high d e p m = let k = e ∙ m.1 in cc

-- a whole number outside of the range
pub out_of_range : (low high top z : ℤ) (d : Data) → ((low ≤ℤ z) × (z <ℤ top) → ⊥) → Some z ≡ as_whole d → top ≡ high +ℤ pos 1 → IsRefused (whole low high) d
unfolding IsRefused
out_of_range low high top z d out e next p m =
    let same : z ≡ m.0 = (let k = e ∙ m.1 in cc) in
    let l : low ≤ℤ z = subst (λ y. low ≤ℤ y) (sym same) m.3 in
    let h : z ≤ℤ high = subst (λ y. y ≤ℤ high) (sym same) m.4 in
    out (l, omega (arith, ints))

pub no_name : (table : List (List ℕ)) (d : Data) → None ≡ as_str d → IsRefused (open_name table) d
unfolding IsRefused
no_name table d e p m = let k = e ∙ m.1 in cc

pub no_text : (d : Data) → None ≡ as_str d → IsRefused digest_text d
unfolding IsRefused
no_text d e p m = let k = e ∙ m.1 in cc

pub not_digest : (t : List ℕ) (d : Data) → Some t ≡ as_str d → (IsDigestText t → ⊥) → IsRefused digest_text d
unfolding IsRefused
not_digest t d e out p m =
    let same : m.0 ≡ t = (let k = e ∙ m.1 in cc) in
    out (subst IsDigestText same m.3)
