use Rattle.oci_commands.proofs.Entries.{none_said}
use Rattle.oci_commands.proofs.sums.digest_said.Goals as goal

pub returns-then-has_colon-clause-none : goal.returns-then-has_colon-clause-none
returns-then-has_colon-clause-none c = λ e. none_said c.args.asked c.args.text.now c.in-None.ensures.none (c.has_colon.ensures.has c.if-has_colon.true)
