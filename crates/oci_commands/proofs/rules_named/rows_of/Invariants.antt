use Rattle.std.proofs.Common.{◌≡◌, [], drop, map, string_bytes}
use Rattle.oci_commands.specs.RuleTexts.{each_once, told_pair}
use Rattle.oci_commands.proofs.rules_named.rows_of.Given as goal

abbrev pub invariant-loop-told : goal.invariant-loop-told
invariant-loop-told l = each_once (map string_bytes l.rows.items) (map (λ t. t.0) (map told_pair (drop l.told-index l.tolds.items))) ≡ each_once [] (map (λ t. t.0) (map told_pair l.tolds.items))
