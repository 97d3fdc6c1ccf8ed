-- Where the bytes so far lead.
use Rattle.std.proofs.Common.{◌≡◌, take}
use Rattle.std.specs.List.{fold}
use Rattle.oci_grammars.specs.DecidedNames.{next_path}
use Rattle.oci_grammars.specs.declared.names.Spot.TheVariants.{BeforeRun}
use Rattle.oci_grammars.proofs.names.is_path_component.Given as goal

abbrev pub invariant-loop-b : goal.invariant-loop-b
invariant-loop-b l = l.spot ≡ fold next_path BeforeRun (take l.b-index l.text)
