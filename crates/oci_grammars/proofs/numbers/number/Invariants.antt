-- The number of the bytes so far.
use Rattle.std.proofs.Common.{◌≡◌, ◌≤◌, take}
use Rattle.oci_grammars.specs.Decided.{capped_from}
use Rattle.oci_grammars.proofs.numbers.number.Given as goal

abbrev pub invariant-loop-b : goal.invariant-loop-b
invariant-loop-b l = record { number : l.value ≡ capped_from 0 (take l.b-index l.digits); small : l.value ≤ 4294967296 }
