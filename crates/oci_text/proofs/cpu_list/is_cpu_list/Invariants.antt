-- The loop is the scan.
use Rattle.std.proofs.Common.{◌≡◌, take}
use Rattle.std.specs.List.{fold}
use Rattle.oci_text.specs.CpuScan.{next_place}
use Rattle.oci_text.specs.declared.cpu_list.Place.TheVariants.{BeforeLow}
use Rattle.oci_text.proofs.cpu_list.is_cpu_list.Given as goal

abbrev pub invariant-loop-b : goal.invariant-loop-b
invariant-loop-b l = l.place ≡ fold next_place BeforeLow (take l.b-index l.b-items)
