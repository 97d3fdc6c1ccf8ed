use Rattle.std.proofs.Common.{◌∙◌, sym}
use Rattle.oci_select.proofs.Tables.{found_at, found_behind, found_nowhere}
use Rattle.oci_select.proofs.normal.meaning.Goals as goal

pub returns-then-is_name : goal.returns-then-is_name
returns-then-is_name c = sym (c.loop-alias.invariant ∙ found_at c.args.table.now c.loop-alias.alias-index _ _ c.loop-alias-test.true (sym c.is_name.ensures ∙ c.if-is_name.true))

pub loop-alias-preserved : goal.loop-alias-preserved
loop-alias-preserved c = c.loop-alias.invariant ∙ found_behind c.args.table.now c.loop-alias.alias-index _ _ c.loop-alias-test.true (sym c.is_name.ensures ∙ c.if-is_name.false)

pub returns : goal.returns
returns c = sym (c.loop-alias.invariant ∙ found_nowhere c.args.table.now c.loop-alias.alias-index _ c.loop-alias-test.false)
