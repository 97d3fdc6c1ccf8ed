use Rattle.std.proofs.Common.{Some, subst, refl, inl, inr}
use Rattle.std.specs.Prelude.{codes}
use Rattle.oci_findings.specs.Checks.{IsAllowed}
use Rattle.oci_schemas.specs.declared.kind.Kind.TheVariants as kind
use Rattle.oci_commands.specs.Trees.{AreIndexTrees}
use Rattle.oci_layout.specs.Sound.{IsTop}
use Rattle.oci_layout.specs.declared.top.TheConstants.{DOCUMENT_LIMIT}
use Rattle.oci_commands.proofs.Trees.{drawn_rows, no_index}
use Rattle.oci_commands.proofs.outline.draw_layout.Goals as goal

pub returns-then-branch-clause-drawn : goal.returns-then-branch-clause-drawn
returns-then-branch-clause-drawn g c =
    let steady = g.L.Store.steady c.args.layout.now in
    let tops = g.L.ImageLayout.tops c.args.layout.now in
    inr (inl (
      refl,
      no_index DOCUMENT_LIMIT steady tops c.args.name.now c.in-Bytes.bytes
          (subst (IsTop DOCUMENT_LIMIT steady tops (codes "index.json")) c.in-Bytes.is c.in_ok-bytes.ensures)
          (subst (λ l. ¬ IsAllowed (Some kind.Index) c.args.name.now l) c.as_slice.ensures.value (c.in_ok-is_wrong-in-Bytes.ensures.wrong c.if-branch.true)),
    ))

pub returns-in-Bytes-clause-drawn : goal.returns-in-Bytes-clause-drawn
returns-in-Bytes-clause-drawn g c =
    let steady = g.L.Store.steady c.args.layout.now in
    let tops = g.L.ImageLayout.tops c.args.layout.now in
    let contents = g.L.Store.contents c.args.layout.now in
    drawn_rows DOCUMENT_LIMIT steady tops contents c.args.name.now _ _ c.in-Bytes.bytes c.in_ok-rows-in-Bytes.rows.items c.write_rows.result
    (subst (IsTop DOCUMENT_LIMIT steady tops (codes "index.json")) c.in-Bytes.is c.in_ok-bytes.ensures) c.in_ok-rows-in-Bytes.ensures.said
    (subst (λ l. AreIndexTrees contents l c.in_ok-rows-in-Bytes.rows.items) c.as_slice-in-Bytes.ensures.value c.in_ok-rows-in-Bytes.ensures.trees) c.write_rows.ensures.wrote c.write_rows.ensures.told
