use Rattle.std.proofs.Common.{ℕ, false, ◌+◌}
use Rattle.std.specs.Prelude.{string_bytes}
use Rattle.oci_findings.specs.Lines.{AreLines}
use Rattle.oci_findings.proofs.github.push_commands.Given as goal

abbrev pub invariant-loop-finding : goal.invariant-loop-finding
invariant-loop-finding l = (n : ℕ) → AreLines false n (string_bytes l.initial.lines) → AreLines false (n + l.finding-index) (string_bytes l.lines)
