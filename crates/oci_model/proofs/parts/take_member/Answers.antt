use Rattle.oci_model.proofs.Removed.{others}
use Rattle.oci_model.proofs.Smaller.{taken_smaller}
use Rattle.oci_model.proofs.parts.take_member.Goals as goal

pub returns-clause-others : goal.returns-clause-others
returns-clause-others c = λ q apart. others c.args.name.now _ _ q c.remove.ensures.entries apart

pub returns-clause-smaller : goal.returns-clause-smaller
returns-clause-smaller c = taken_smaller c.args.name.now _ _ _ c.remove.ensures.value c.remove.ensures.entries
