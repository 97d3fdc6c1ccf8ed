use Rattle.std.proofs.Common.{subst}
use Rattle.oci_layout.specs.Looks.{Gives}
use Rattle.oci_layout.specs.declared.top.TheConstants.{DOCUMENT_LIMIT}
use Rattle.oci_commands.specs.Trees.{missing_mark}
use Rattle.oci_commands.proofs.Trees.{open_content_said, open_missing_said, open_unreadable_said, said_as}
use Rattle.oci_commands.proofs.drawing.Drawing.mark_of_bytes.Goals as goal

pub returns-in-Missing : goal.returns-in-Missing
returns-in-Missing g c = λ closed.
    let steady = g.L.Store.steady c.args.self.now.layout.now in
    let contents = g.L.Store.contents c.args.self.now.layout.now in
    let remaining = g.L.Blob.Read.remaining in
    let claim = c.args.claim.now in
    said_as DOCUMENT_LIMIT steady contents claim c.mark_of_missing.result (missing_mark claim) c.mark_of_missing.ensures.missing
    (open_missing_said remaining DOCUMENT_LIMIT steady contents claim (subst (Gives remaining steady contents claim.digest) c.in-Missing.is c.in_ok-open.ensures))

pub returns-in-Unreadable : goal.returns-in-Unreadable
returns-in-Unreadable g c = λ closed.
    let steady = g.L.Store.steady c.args.self.now.layout.now in
    let contents = g.L.Store.contents c.args.self.now.layout.now in
    let remaining = g.L.Blob.Read.remaining in
    let claim = c.args.claim.now in
    open_unreadable_said remaining DOCUMENT_LIMIT steady contents claim c.in-Unreadable.field-0
    (subst (Gives remaining steady contents claim.digest) c.in-Unreadable.is c.in_ok-open.ensures)

pub returns-in-Content : goal.returns-in-Content
returns-in-Content g c = λ closed.
    let steady = g.L.Store.steady c.args.self.now.layout.now in
    let contents = g.L.Store.contents c.args.self.now.layout.now in
    let remaining = g.L.Blob.Read.remaining in
    let claim = c.args.claim.now in
    open_content_said remaining DOCUMENT_LIMIT steady contents claim c.mark_of_unopened.result c.in-Content.blob c.in-Content.size
    (subst (Gives remaining steady contents claim.digest) c.in-Content.is c.in_ok-open.ensures) c.mark_of_unopened.ensures closed
