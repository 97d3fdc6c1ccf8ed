use Rattle.std.proofs.Common.{◌≡◌, drop}
use Rattle.oci_select.specs.Normal.{lower, meaning}
use Rattle.oci_select.specs.Told.{rows}
use Rattle.oci_select.proofs.normal.meaning.Given as goal

-- the name means what it means in the rest of the table
abbrev pub invariant-loop-alias : goal.invariant-loop-alias
invariant-loop-alias l = meaning (rows l.table) (lower l.name) ≡ meaning (rows (drop l.alias-index l.table)) (lower l.name)
