use Rattle.std.proofs.Common.{◌≡◌, [], drop, map, string_bytes}
use Rattle.std.specs.Prelude.{bytes_eq}
use Rattle.std.specs.List.{filter}
use Rattle.oci_commands.specs.RuleTexts.{each_once, lines_behind, told_pair}
use Rattle.oci_commands.proofs.rules_named.lines_behind.Given as goal

abbrev pub invariant-loop-told : goal.invariant-loop-told
invariant-loop-told l = each_once (map string_bytes l.lines.items) (map (λ t. t.1) (filter (λ t. bytes_eq t.0 l.row) (map told_pair (drop l.told-index l.tolds.items)))) ≡ lines_behind l.row (map told_pair l.tolds.items)
