use Rattle.std.proofs.Common.{◌∙◌, ap, map, sym, subst}
use Rattle.oci_findings.specs.Outlines.{child_entry}
use Rattle.oci_layout.specs.declared.top.TheConstants.{DOCUMENT_LIMIT}
use Rattle.oci_commands.specs.Trees.{AddsLine, AddsRow}
use Rattle.oci_commands.proofs.Trees.{line_added, row_below}
use Rattle.oci_commands.proofs.drawing.Drawing.draw_line.Goals as goal

pub returns-clause-said : goal.returns-clause-said
returns-clause-said g c =
    let found = c.in_ok-found.found in
    let kept = ap (λ v. v.items) c.in_ok-found.ensures.kept in
    let limit = DOCUMENT_LIMIT in
    let steady = g.L.Store.steady c.args.self.now.layout.now in
    let contents = g.L.Store.contents c.args.self.now.layout.now in
    let old = c.args.drawn.now.rows.items in
    let new = c.add.new.self.rows.items in
    line_added limit steady contents c.args.before.now c.args.child found.mark old new c.in_ok-found.ensures.said
    (subst (λ l. AddsRow c.args.before.now c.args.child found.mark l new) kept c.in_ok-children.ensures.row)

pub returns-clause-line : goal.returns-clause-line
returns-clause-line g c =
    let found = c.in_ok-found.found in
    let kept = ap (λ v. v.items) c.in_ok-found.ensures.kept in
    let contents = g.L.Store.contents c.args.self.now.layout.now in
    let old = c.args.drawn.now.rows.items in
    let new = c.add.new.self.rows.items in
    subst (λ v. AddsLine contents c.args.before.now c.args.child (map child_entry v.items) old new) (sym c.in_ok-children.ensures.children)
    (row_below contents c.args.before.now c.args.child found.mark (map child_entry found.children.items) old new
    (subst (λ l. AddsRow c.args.before.now c.args.child found.mark l new) kept c.in_ok-children.ensures.row) c.in_ok-found.ensures.below)

pub returns-clause-deep : goal.returns-clause-deep
returns-clause-deep g c = λ at. ap (λ v. v.items) c.in_ok-children.ensures.children ∙ c.in_ok-found.ensures.deep at
