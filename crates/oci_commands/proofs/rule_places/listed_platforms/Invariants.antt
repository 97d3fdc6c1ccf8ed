use Rattle.std.proofs.Common.{◌≡◌, ◌++◌, drop, map, string_bytes}
use Rattle.std.specs.Prelude.{codes, if◌then◌else◌}
use Rattle.oci_rules.specs.Tables.{platform_of}
use Rattle.oci_findings.specs.Wording.{marked}
use Rattle.oci_commands.specs.RuleTexts.{platform_word}
use Rattle.oci_commands.proofs.rule_places.listed_platforms.Given as goal

abbrev pub invariant-loop-platform : goal.invariant-loop-platform
invariant-loop-platform l =
    string_bytes l.text ++ marked (if l.first then codes " on " else codes ", ") (map platform_word (map platform_of (drop l.platform-index l.platforms)))
    ≡ marked (codes " on ") (map platform_word (map platform_of l.platforms))
