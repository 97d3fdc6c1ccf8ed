use Rattle.std.proofs.Common.{◌≡◌, ◌++◌, drop, map}
use Rattle.serde_json.specs.View.{view}
use Rattle.oci_rules.specs.Listed.{all_broken}
use Rattle.oci_rules.specs.Tables.{told, rule_of, platform_of}
use Rattle.oci_rules.proofs.find.add_rules.Given as goal

abbrev pub invariant-loop-rule : goal.invariant-loop-rule
invariant-loop-rule l =
    map told l.found.items ++ all_broken (map rule_of (drop l.rule-index l.rules)) (platform_of l.platform) (view l.value)
    ≡ map told l.initial.found.items ++ all_broken (map rule_of l.rules) (platform_of l.platform) (view l.value)
