use Rattle.std.proofs.Common.{subst, refl}
use Rattle.oci_findings.specs.declared.outline.Mark.TheVariants as mark
use Rattle.oci_findings.specs.Outlines.{child_entry}
use Rattle.oci_layout.specs.Sound.{IsTop}
use Rattle.oci_layout.specs.declared.top.TheConstants.{DOCUMENT_LIMIT}
use Rattle.oci_commands.specs.Trees.{IsFoundIn, IsWithin, missing_mark}
use Rattle.oci_commands.proofs.Trees.{found_below, found_said, mark_below, said_as, top_large_said, top_missing_said, top_unreadable_said}
use Rattle.std.proofs.Common.{map, ◌∙◌}
use Rattle.oci_commands.proofs.drawing.Drawing.look_into.Goals as goal

pub returns-in_ok-found-in-Bytes-clause-said : goal.returns-in_ok-found-in-Bytes-clause-said
returns-in_ok-found-in-Bytes-clause-said g c =
    let steady = g.L.Store.steady c.args.self.now.layout.now in
    let contents = g.L.Store.contents c.args.self.now.layout.now in
    let claim = c.args.claim.now in
    found_said DOCUMENT_LIMIT steady contents claim c.in-Bytes.bytes c.in_ok-found-in-Bytes.found.mark
    (subst (IsTop DOCUMENT_LIMIT steady contents claim.digest) c.in-Bytes.is c.in_ok-bytes.ensures)
    (subst (λ l. IsFoundIn claim.kind l c.in_ok-found-in-Bytes.found.mark) c.as_slice.ensures.value c.in_ok-found-in-Bytes.ensures.found)

pub returns-in_ok-found-in-Bytes-clause-below : goal.returns-in_ok-found-in-Bytes-clause-below
returns-in_ok-found-in-Bytes-clause-below g c =
    let steady = g.L.Store.steady c.args.self.now.layout.now in
    let contents = g.L.Store.contents c.args.self.now.layout.now in
    let claim = c.args.claim.now in
    let found = c.in_ok-found-in-Bytes.found in
    found_below DOCUMENT_LIMIT steady contents claim c.in-Bytes.bytes found.mark (map child_entry found.children.items) c.requires.opened
    (subst (IsTop DOCUMENT_LIMIT steady contents claim.digest) c.in-Bytes.is c.in_ok-bytes.ensures)
    (subst (λ l. IsWithin claim.kind l found.mark (map child_entry found.children.items)) c.as_slice.ensures.value c.in_ok-found-in-Bytes.ensures.within)

pub returns-in-Missing-clause-said : goal.returns-in-Missing-clause-said
returns-in-Missing-clause-said g c =
    let steady = g.L.Store.steady c.args.self.now.layout.now in
    let contents = g.L.Store.contents c.args.self.now.layout.now in
    let claim = c.args.claim.now in
    said_as DOCUMENT_LIMIT steady contents claim c.of.result.mark (missing_mark claim) (c.of.ensures.mark ∙ c.mark_of_missing.ensures.missing)
    (top_missing_said DOCUMENT_LIMIT steady contents claim (subst (IsTop DOCUMENT_LIMIT steady contents claim.digest) c.in-Missing.is c.in_ok-bytes.ensures))

pub returns-in-Missing-clause-below : goal.returns-in-Missing-clause-below
returns-in-Missing-clause-below g c =
    mark_below (g.L.Store.contents c.args.self.now.layout.now) c.args.claim.now c.of.result.mark c.mark_of_missing.result c.of.result.children.items c.of.ensures.mark
    c.mark_of_missing.ensures.closed c.of.ensures.children

pub returns-in-Unreadable-clause-said : goal.returns-in-Unreadable-clause-said
returns-in-Unreadable-clause-said g c =
    let steady = g.L.Store.steady c.args.self.now.layout.now in
    let contents = g.L.Store.contents c.args.self.now.layout.now in
    let claim = c.args.claim.now in
    said_as DOCUMENT_LIMIT steady contents claim c.of-in-Unreadable.result.mark mark.Unreadable c.of-in-Unreadable.ensures.mark
    (top_unreadable_said DOCUMENT_LIMIT steady contents claim c.in-Unreadable.field-0
    (subst (IsTop DOCUMENT_LIMIT steady contents claim.digest) c.in-Unreadable.is c.in_ok-bytes.ensures))

pub returns-in-Unreadable-clause-below : goal.returns-in-Unreadable-clause-below
returns-in-Unreadable-clause-below g c =
    mark_below (g.L.Store.contents c.args.self.now.layout.now) c.args.claim.now c.of-in-Unreadable.result.mark mark.Unreadable c.of-in-Unreadable.result.children.items
    c.of-in-Unreadable.ensures.mark refl c.of-in-Unreadable.ensures.children

pub returns-in-TooLarge-clause-said : goal.returns-in-TooLarge-clause-said
returns-in-TooLarge-clause-said g c =
    let steady = g.L.Store.steady c.args.self.now.layout.now in
    let contents = g.L.Store.contents c.args.self.now.layout.now in
    let claim = c.args.claim.now in
    said_as DOCUMENT_LIMIT steady contents claim c.of-in-TooLarge.result.mark mark.TooLarge c.of-in-TooLarge.ensures.mark
    (top_large_said DOCUMENT_LIMIT steady contents claim (subst (IsTop DOCUMENT_LIMIT steady contents claim.digest) c.in-TooLarge.is c.in_ok-bytes.ensures))

pub returns-in-TooLarge-clause-below : goal.returns-in-TooLarge-clause-below
returns-in-TooLarge-clause-below g c =
    mark_below (g.L.Store.contents c.args.self.now.layout.now) c.args.claim.now c.of-in-TooLarge.result.mark mark.TooLarge c.of-in-TooLarge.result.children.items
    c.of-in-TooLarge.ensures.mark refl c.of-in-TooLarge.ensures.children
