use Rattle.std.proofs.Common.{[], map, take, string_bytes}
use Rattle.std.specs.List.{flat_map}
use Rattle.oci_rules.specs.Tables.{rule_of}
use Rattle.oci_commands.specs.Books.{Rows}
use Rattle.oci_commands.proofs.books.rules_of_kind.Given as goal

abbrev pub invariant-loop-book : goal.invariant-loop-book
invariant-loop-book g l = Rows (flat_map (λ b. map rule_of b.now) (take l.book-index l.book-items)) [] (map string_bytes l.rows.items)
