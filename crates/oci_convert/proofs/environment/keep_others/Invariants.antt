use Rattle.std.proofs.Common.{◌≡◌, ◌++◌, map, take, string_bytes}
use Rattle.std.specs.Prelude.{filter, not}
use Rattle.oci_convert.specs.Verbatim.{sets}
use Rattle.oci_convert.proofs.environment.keep_others.Given as goal

abbrev pub invariant-loop-entry : goal.invariant-loop-entry
invariant-loop-entry l = map string_bytes l.kept.items ≡ map string_bytes l.initial.kept.items ++ filter (λ e. not (sets (map string_bytes l.env.items) e)) (map string_bytes (take l.entry-index l.entry-items))
