use Rattle.oci_rules.specs.Tables.{rule_of}
use Rattle.oci_commands.proofs.Rows.{row_next}
use Rattle.oci_commands.proofs.books.add_rows.Goals as goal

pub loop-rule-preserved : goal.loop-rule-preserved
loop-rule-preserved c = row_next rule_of c.args.book.now c.loop-rule.rule-index _ _ _ _ _ c.loop-rule-test.true c.loop-rule.invariant c.in_ok-row.ensures c.in_ok-add_new.ensures
