use Rattle.std.proofs.Common.{[]}
use Rattle.tar_folder.specs.Parts.{texts_of}
use Rattle.oci_saved.proofs.Along.{out_there}
use Rattle.oci_saved.proofs.link.names_of.Goals as goal

pub returns-then-not-branch : goal.returns-then-not-branch
returns-then-not-branch c =
    out_there c.args.parts.now c.parts.part-index (record { ref_ptr = (0, 0); now = [] }) c.in_ok-take_part.field-0 (texts_of c.parts.names.items) (texts_of c.take_part.new.names.items) _
    c.parts-test.true c.if-not-branch.true c.in_ok-take_part.ensures c.parts.invariant
