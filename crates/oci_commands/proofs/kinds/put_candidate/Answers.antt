use Rattle.oci_commands.proofs.Rows.{four}
use Rattle.oci_commands.proofs.kinds.put_candidate.Goals as goal

pub returns-clause-tokens : goal.returns-clause-tokens
returns-clause-tokens c = four _ _ _ _ _ _ _ _ _ c.in_ok-key.ensures.ok c.in_ok-begin_array.ensures.ok c.in_ok-string.ensures.ok c.in_ok-end_array.ensures.ok
