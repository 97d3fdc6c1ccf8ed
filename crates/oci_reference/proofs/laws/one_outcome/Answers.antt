-- The laws are `outcome`, `accepted_once`, `one_reason` and `not_both`.
use Rattle.oci_reference.proofs.Outcomes.{outcome, accepted_once, one_reason, not_both}
use Rattle.oci_reference.proofs.laws.one_outcome.Goals as goal

pub returns-clause-always : goal.returns-clause-always
returns-clause-always c = outcome

pub returns-clause-once : goal.returns-clause-once
returns-clause-once c = accepted_once

pub returns-clause-one_reason : goal.returns-clause-one_reason
returns-clause-one_reason c = one_reason

pub returns-clause-not_both : goal.returns-clause-not_both
returns-clause-not_both c = not_both
