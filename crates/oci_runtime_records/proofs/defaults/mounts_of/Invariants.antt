use Rattle.std.proofs.Common.{◌≡◌, take, map}
use Rattle.oci_model.specs.Plain.{plains}
use Rattle.oci_runtime_records.specs.DefaultMounts.{mount_of_row}
use Rattle.oci_runtime_records.specs.Mount.{mount_plain}
use Rattle.oci_runtime_records.proofs.defaults.mounts_of.Given as goal

abbrev pub invariant-loop-row : goal.invariant-loop-row
invariant-loop-row l = plains (map mount_plain l.listed.items) ≡ plains (map mount_of_row (take l.row-index l.rows))
