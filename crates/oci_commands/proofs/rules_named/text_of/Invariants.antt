use Rattle.std.proofs.Common.{◌≡◌, ◌++◌, drop, map, string_bytes}
use Rattle.std.specs.List.{concat, flat_map}
use Rattle.oci_commands.specs.RuleTexts.{lines_behind, told_pair}
use Rattle.oci_commands.proofs.rules_named.text_of.Given as goal

abbrev pub invariant-loop-row : goal.invariant-loop-row
invariant-loop-row l = string_bytes l.text ++ flat_map (λ row. row ++ concat (lines_behind row (map told_pair l.tolds.items))) (map string_bytes (drop l.row-index l.row-items)) ≡ string_bytes l.initial.text ++ flat_map (λ row. row ++ concat (lines_behind row (map told_pair l.tolds.items))) (map string_bytes l.row-items)
