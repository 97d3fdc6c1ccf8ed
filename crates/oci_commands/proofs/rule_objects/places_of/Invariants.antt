use Rattle.std.proofs.Common.{◌≡◌, [], drop, map, string_bytes}
use Rattle.oci_rules.specs.Tables.{rule_of}
use Rattle.oci_commands.specs.RuleTexts.{each_once, place_text}
use Rattle.oci_commands.proofs.rule_objects.places_of.Given as goal

abbrev pub invariant-loop-rule : goal.invariant-loop-rule
invariant-loop-rule l = each_once (map string_bytes l.places.items) (map (λ q. place_text q.place) (map (λ r. rule_of r.now) (drop l.rule-index l.rules.items))) ≡ each_once [] (map (λ q. place_text q.place) (map (λ r. rule_of r.now) l.rules.items))
