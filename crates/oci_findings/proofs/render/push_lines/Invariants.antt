use Rattle.std.proofs.Common.{ℕ, ◌+◌}
use Rattle.std.specs.Prelude.{string_bytes}
use Rattle.oci_findings.specs.Lines.{AreLines}
use Rattle.oci_findings.proofs.render.push_lines.Given as goal

abbrev pub invariant-loop-finding : goal.invariant-loop-finding
invariant-loop-finding l = (n : ℕ) → AreLines l.fn.colored n (string_bytes l.initial.lines) → AreLines l.fn.colored (n + l.finding-index) (string_bytes l.lines)
