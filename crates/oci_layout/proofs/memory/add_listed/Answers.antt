use Rattle.std.proofs.Common.{refl}
use Rattle.oci_layout.proofs.Names.{one_added}
use Rattle.oci_layout.proofs.memory.add_listed.Goals as goal

pub returns : goal.returns
returns c =
    one_added c.args.kept.now.name.now c.in-Ok.digest c.args.listed.now.items c.push.new.self.items _ c.in-Ok.ensures.ok c.in_ok-push.ensures.items refl
    c.in_ok-path.ensures.path c.in_ok-path.ensures.parts
