-- Contents beside their descriptors.
use Rattle.std.specs.Prelude.{◌≡◌, ℕ, List}
use Rattle.std.proofs.Common.{subst}
use Rattle.oci_content.specs.Content.{Tells}
use Rattle.oci_content.specs.declared.verdict.Verdict.{Verdict}

pub tells_along : {d e : List ℕ} {m n : ℕ} {b c : List ℕ} (v : Verdict) → d ≡ e → m ≡ n → b ≡ c → Tells d m b v → Tells e n c v
tells_along {d} {e} {m} {n} {b} {c} v p q r h =
    subst (λ x. Tells e n x v) r (subst (λ x. Tells e x b v) q (subst (λ x. Tells x m b v) p h))
