use Rattle.std.proofs.Common.{◌-◌, ◌^◌, vec_len}
use Rattle.std.specs.Io.KnownBytes.{Consumes}
use Rattle.oci_layout.proofs.pieces.read_sized.Given as goal

abbrev pub invariant-pieces : goal.invariant-pieces
invariant-pieces g l = Consumes (g.R.Read.remaining l.initial.reader) (g.R.Read.remaining l.reader) l.bytes.items

abbrev pub decreases-pieces : goal.decreases-pieces
decreases-pieces g l = 2 ^ 63 - vec_len l.bytes
