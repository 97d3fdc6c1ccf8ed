use Rattle.std.proofs.Common.{sym, ◌∙◌}
use Rattle.oci_commands.proofs.Trees.{closed_without}
use Rattle.oci_commands.proofs.drawing.mark_of_known.Goals as goal

pub returns-else-has_children-clause-closed : goal.returns-else-has_children-clause-closed
returns-else-has_children-clause-closed c = closed_without c.args.claim.now (sym c.has_children.ensures ∙ c.if-has_children.false)
