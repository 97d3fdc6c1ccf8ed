use Rattle.std.proofs.Common.{◌≡◌, ◌++◌, drop, map}
use Rattle.oci_rules.specs.Tables.{rule_of, level_of}
use Rattle.oci_ffi.specs.Rules.{rules_up_to}
use Rattle.oci_ffi.proofs.rules.add_rules.Given as goal

abbrev pub invariant-loop-rule : goal.invariant-loop-rule
invariant-loop-rule l =
    map rule_of l.rules.items ++ rules_up_to (level_of l.last) (map rule_of (drop l.rule-index l.book))
    ≡ map rule_of l.initial.rules.items ++ rules_up_to (level_of l.last) (map rule_of l.book)
