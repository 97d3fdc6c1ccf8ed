use Rattle.std.proofs.Common.{string_bytes}
use Rattle.oci_inspect.specs.Shown.{AreLines}
use Rattle.oci_inspect.proofs.rows.lines_of.Given as goal

abbrev pub invariant-loop-row : goal.invariant-loop-row
invariant-loop-row l = AreLines (string_bytes l.text)
