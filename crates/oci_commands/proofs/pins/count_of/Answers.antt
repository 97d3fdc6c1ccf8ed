use Rattle.std.proofs.Common.{arith}
use Rattle.oci_commands.proofs.Targets.{no_array, past_end}
use Rattle.oci_commands.proofs.pins.count_of.Goals as goal

pub returns-in-Some : goal.returns-in-Some
returns-in-Some c = λ place le. past_end _ c.in-Some.manifests.now.items place c.in-Some.ensures (omega arith)

pub returns-in-None : goal.returns-in-None
returns-in-None c = λ place le. no_array _ place c.in-None.ensures
