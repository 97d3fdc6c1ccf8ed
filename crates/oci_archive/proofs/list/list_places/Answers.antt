use Rattle.std.proofs.Common.{arith}
use Rattle.oci_archive.proofs.Listed.{list_more, list_whole}
use Rattle.oci_archive.proofs.list.list_places.Goals as goal

pub each-preserved : goal.each-preserved
each-preserved c = list_more c.args.places.now c.each.at _ c.each.listed.items c.add_entry.new.listed.items (omega arith) c.each.invariant c.in_ok-add_entry.ensures

pub returns : goal.returns
returns c = list_whole c.args.places.now c.each.at c.each.listed.items (omega arith) c.each.invariant
