use Rattle.oci_commands.proofs.Trees.{known_among}
use Rattle.oci_commands.proofs.drawing.Drawn.known_mark.Goals as goal

pub returns-then-is_same_document-clause-said : goal.returns-then-is_same_document-clause-said
returns-then-is_same_document-clause-said c =
    known_among c.args.self.now.rows.items c.in_ok-row.row.now c.args.claim.now c.mark_again.result c.in_ok-row.ensures (c.is_same_document.ensures c.if-is_same_document.true)
    c.mark_again.ensures.again
