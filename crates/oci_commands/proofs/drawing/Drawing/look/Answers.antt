use Rattle.std.proofs.Common.{◌∙◌, false, sym}
use Rattle.oci_layout.specs.declared.top.TheConstants.{DOCUMENT_LIMIT}
use Rattle.oci_commands.specs.Trees.{is_opened}
use Rattle.oci_commands.proofs.Trees.{closed_unread, mark_below, said_as}
use Rattle.oci_commands.proofs.drawing.Drawing.look.Goals as goal

pub returns-then-not-is_opened-clause-said : goal.returns-then-not-is_opened-clause-said
returns-then-not-is_opened-clause-said g c = λ before.
    said_as DOCUMENT_LIMIT (g.L.Store.steady c.args.self.now.layout.now) (g.L.Store.contents c.args.self.now.layout.now) c.args.claim.now c.of.result.mark c.in_ok-mark.mark
    c.of.ensures.mark (c.in_ok-mark.ensures (sym c.is_opened.ensures ∙ c.if-not-is_opened.true))

pub returns-then-not-is_opened-clause-below : goal.returns-then-not-is_opened-clause-below
returns-then-not-is_opened-clause-below g c =
    mark_below (g.L.Store.contents c.args.self.now.layout.now) c.args.claim.now c.of.result.mark c.in_ok-mark.mark c.of.result.children.items c.of.ensures.mark
    (closed_unread c.args.claim.now c.in_ok-mark.mark (sym c.is_opened.ensures ∙ c.if-not-is_opened.true)) c.of.ensures.children

pub returns-then-not-is_opened-clause-deep : goal.returns-then-not-is_opened-clause-deep
returns-then-not-is_opened-clause-deep g c = λ at. c.of.ensures.children

pub look_into-requires-clause-opened : goal.look_into-requires-clause-opened
look_into-requires-clause-opened g c = sym c.is_opened.ensures ∙ c.if-not-is_opened.false

pub returns-in-Some-clause-said : goal.returns-in-Some-clause-said
returns-in-Some-clause-said g c = λ before.
    let limit = DOCUMENT_LIMIT in
    let steady = g.L.Store.steady c.args.self.now.layout.now in
    let contents = g.L.Store.contents c.args.self.now.layout.now in
    said_as limit steady contents c.args.claim.now c.of-in-Some.result.mark c.in-Some.mark c.of-in-Some.ensures.mark (c.in-Some.ensures.said limit steady contents before)

pub returns-in-Some-clause-below : goal.returns-in-Some-clause-below
returns-in-Some-clause-below g c =
    mark_below (g.L.Store.contents c.args.self.now.layout.now) c.args.claim.now c.of-in-Some.result.mark c.in-Some.mark c.of-in-Some.result.children.items
    c.of-in-Some.ensures.mark c.in-Some.ensures.closed c.of-in-Some.ensures.children

pub returns-in-Some-clause-deep : goal.returns-in-Some-clause-deep
returns-in-Some-clause-deep g c = λ at. c.of-in-Some.ensures.children

pub returns-clause-said : goal.returns-clause-said
returns-clause-said g c = λ before. c.in_ok-found.ensures.said
