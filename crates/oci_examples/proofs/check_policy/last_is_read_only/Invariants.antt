use Rattle.std.proofs.Common.{◌≡◌, map, take, string_bytes}
use Rattle.std.specs.Prelude.{fold, false}
use Rattle.oci_examples.specs.Policy.{read_only_after}
use Rattle.oci_examples.proofs.check_policy.last_is_read_only.Given as goal

abbrev pub invariant-loop-option : goal.invariant-loop-option
invariant-loop-option l = l.read_only ≡ fold read_only_after false (take l.option-index (map string_bytes l.option-items))
