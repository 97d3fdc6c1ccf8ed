-- Where the bytes so far lead.
use Rattle.std.proofs.Common.{◌≡◌, take}
use Rattle.std.specs.List.{fold}
use Rattle.oci_grammars.specs.DecidedNames.{next_label}
use Rattle.oci_grammars.specs.declared.names.Spot.TheVariants.{BeforeRun}
use Rattle.oci_grammars.proofs.names.is_host_label.Given as goal

abbrev pub invariant-loop-b : goal.invariant-loop-b
invariant-loop-b l = l.spot ≡ fold next_label BeforeRun (take l.b-index l.text)
