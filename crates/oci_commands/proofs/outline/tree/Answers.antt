use Rattle.oci_commands.proofs.Trees.{no_tree_held, wrote_held}
use Rattle.oci_commands.proofs.outline.tree.Goals as goal

pub returns-in_ok-status-in-Ok-clause-wrote : goal.returns-in_ok-status-in-Ok-clause-wrote
returns-in_ok-status-in-Ok-clause-wrote g c = λ done.
    wrote_held _ c.args.file.now c.in-Ok.bytes.items c.as_slice.result.now _ _ c.in-Ok.ensures c.as_slice.ensures.value (c.in_ok-status-in-Ok.ensures.wrote done)

pub returns-in_ok-status-in-Ok-clause-wrong : goal.returns-in_ok-status-in-Ok-clause-wrong
returns-in_ok-status-in-Ok-clause-wrong g c = λ one.
    no_tree_held _ c.args.file.now c.in-Ok.bytes.items c.as_slice.result.now c.in-Ok.ensures c.as_slice.ensures.value (c.in_ok-status-in-Ok.ensures.wrong one)
