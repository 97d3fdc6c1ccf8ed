use Rattle.std.proofs.Common.{◌≡◌, drop, map, string_bytes}
use Rattle.oci_rules.specs.Tables.{platform_of}
use Rattle.oci_commands.specs.RuleTexts.{each_once, platform_word}
use Rattle.oci_commands.proofs.rule_places.add_words.Given as goal

abbrev pub invariant-loop-platform : goal.invariant-loop-platform
invariant-loop-platform l = each_once (map string_bytes l.words.items) (map platform_word (map platform_of (drop l.platform-index l.platforms))) ≡ each_once (map string_bytes l.initial.words.items) (map platform_word (map platform_of l.platforms))
