use Rattle.std.proofs.Common.{sym, ◌∙◌}
use Rattle.oci_text.specs.Algorithms.{algorithms}
use Rattle.oci_descriptor.proofs.Sha256.{encoded_part, no_part, is_sha256}
use Rattle.oci_descriptor.proofs.descriptor.Descriptor.as_digest_sha256.Goals as goal

pub returns-then-eq-clause-value : goal.returns-then-eq-clause-value
returns-then-eq-clause-value c = encoded_part algorithms _ _ _ _ c.as_ref.ensures (sym c.eq.ensures ∙ c.if-eq.true) c.algorithm.ensures.value c.digest.ensures.value

pub returns-else-eq-clause-value : goal.returns-else-eq-clause-value
returns-else-eq-clause-value c = no_part algorithms _ _ _ c.as_ref.ensures (sym c.eq.ensures ∙ c.if-eq.false) c.algorithm.ensures.value

pub returns-then-eq-clause-sha256 : goal.returns-then-eq-clause-sha256
returns-then-eq-clause-sha256 c = is_sha256 _ _ c.algorithm.ensures.digest (returns-then-eq-clause-value c)

pub returns-else-eq-clause-sha256 : goal.returns-else-eq-clause-sha256
returns-else-eq-clause-sha256 c = is_sha256 _ _ c.algorithm.ensures.digest (returns-else-eq-clause-value c)
