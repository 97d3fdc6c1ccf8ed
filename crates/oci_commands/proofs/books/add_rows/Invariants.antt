use Rattle.std.proofs.Common.{map, take, string_bytes}
use Rattle.oci_rules.specs.Tables.{rule_of}
use Rattle.oci_commands.specs.Books.{Rows}
use Rattle.oci_commands.proofs.books.add_rows.Given as goal

abbrev pub invariant-loop-rule : goal.invariant-loop-rule
invariant-loop-rule l = Rows (map rule_of (take l.rule-index l.book)) (map string_bytes l.initial.rows.items) (map string_bytes l.rows.items)
