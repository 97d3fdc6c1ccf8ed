use Rattle.std.proofs.Common.{◌≡◌, length, subst, rules}
use Rattle.oci_content.specs.Content.{IsBy}
use Rattle.oci_content.specs.declared.algorithm.Algorithm.{Algorithm}
use Rattle.oci_ffi.specs.declared.status.TheConstants.{UNKNOWN_ALGORITHM}
use Rattle.oci_ffi.proofs.content.ciderglen_verify.Goals as goal

pub returns-then-is_digest-clause-unknown : goal.returns-then-is_digest-clause-unknown
returns-then-is_digest-clause-unknown c =
    let same : c.in-Ok.digest.now ≡ c.args.digest.now = search rules in
    subst (λ t. c.verdict_status.result ≡ UNKNOWN_ALGORITHM → (length c.args.content.now ≡ c.args.size) × ((a : Algorithm) → IsBy a t → ⊥)) same c.verdict_status.ensures.unknown
