use Rattle.std.proofs.Common.{◌≡◌, ◌++◌, drop, string_bytes}
use Rattle.oci_rules.specs.Tables.{place_of}
use Rattle.oci_commands.specs.RuleTexts.{place_text}
use Rattle.oci_commands.proofs.rule_places.place_text.Given as goal

abbrev pub invariant-loop-step : goal.invariant-loop-step
invariant-loop-step l = string_bytes l.text ++ place_text (place_of (drop l.step-index l.rule.place.now)) ≡ place_text (place_of l.rule.place.now)
