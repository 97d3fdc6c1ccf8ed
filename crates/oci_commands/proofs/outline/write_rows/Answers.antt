use Rattle.oci_commands.proofs.Trees.{tells_whole}
use Rattle.oci_commands.proofs.outline.write_rows.Goals as goal

pub returns-clause-told : goal.returns-clause-told
returns-clause-told g c =
    tells_whole c.args.rows.now.items c.are_whole.result c.status_of.result c.are_whole.ensures c.status_of.ensures.whole c.status_of.ensures.part
