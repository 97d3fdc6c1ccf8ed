use Rattle.std.proofs.Common.{◌≡◌, ◌++◌, drop, map, string_bytes}
use Rattle.json.specs.Token.{string}
use Rattle.oci_commands.proofs.rule_objects.put_texts.Given as goal

abbrev pub invariant-loop-text : goal.invariant-loop-text
invariant-loop-text l = record {
  before : l.out.before ≡ l.initial.out.before;
  tokens : l.out.tokens ++ map string (map string_bytes (drop l.text-index l.texts.items)) ≡ l.initial.out.tokens ++ map string (map string_bytes l.texts.items);
}
