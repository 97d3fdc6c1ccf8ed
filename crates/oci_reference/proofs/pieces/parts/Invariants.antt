-- The scanner stands after the bytes that it was shown.
use Rattle.std.proofs.Common.{take}
use Rattle.oci_reference.specs.Scanner.{Stands}
use Rattle.oci_reference.proofs.pieces.parts.Given as goal

abbrev pub invariant-loop-b : goal.invariant-loop-b
invariant-loop-b l = Stands l.scanner (take l.b-index l.b-items)
