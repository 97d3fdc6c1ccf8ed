use Rattle.std.proofs.Common.{arith, length-take-le}
use borrow.Rule.Slice.PartMut.{take_put}
use Rattle.oci_json.proofs.Pieces.{in_place}
use Rattle.oci_json.proofs.reading.read_after.Goals as goal

pub returns-clause-front : goal.returns-clause-front
returns-clause-front g c = take_put _ _ c.args.bytes.now _ (omega (arith, c.requires))

pub returns-clause-ok : goal.returns-clause-ok
returns-clause-ok g c =
    in_place _ _ c.read.result _ c.read.new.buf _ c.args.at (length-take-le _ c.args.bytes.now (omega (arith, c.requires)))
    c.read.ensures.bound c.read.ensures.bytes
