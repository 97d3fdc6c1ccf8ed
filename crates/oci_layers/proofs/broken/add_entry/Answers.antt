use Rattle.std.proofs.Common.{refl}
use Rattle.std.proofs.lemmas.Result.{on_ok_weaker}
use Rattle.tar.specs.Entries.{member_of}
use Rattle.oci_layers.proofs.broken.add_entry.Goals as goal

pub returns : goal.returns
returns c =
    let m = member_of c.args.entry.now in
    let facts = c.in_ok-facts.ensures in
    on_ok_weaker c.add.result (λ added before seen at. (added before m seen refl facts.path facts.tail, c.in_ok-add_each.ensures before seen facts at)) c.add.ensures
