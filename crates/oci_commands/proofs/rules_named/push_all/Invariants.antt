use Rattle.std.proofs.Common.{◌≡◌, ◌++◌, drop, map, string_bytes}
use Rattle.std.specs.List.{concat}
use Rattle.oci_commands.proofs.rules_named.push_all.Given as goal

abbrev pub invariant-loop-line : goal.invariant-loop-line
invariant-loop-line l = string_bytes l.text ++ concat (map string_bytes (drop l.line-index l.lines.items)) ≡ string_bytes l.initial.text ++ concat (map string_bytes l.lines.items)
