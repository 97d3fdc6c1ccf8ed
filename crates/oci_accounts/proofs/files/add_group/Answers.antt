use Rattle.std.proofs.Common.{refl}
use Rattle.oci_accounts.proofs.Firsts.{adds_none, adds_one}
use Rattle.oci_accounts.proofs.files.add_group.Goals as goal

pub returns-in_default : goal.returns-in_default
returns-in_default c = adds_none c.args.member.now c.args.line.now c.args.gids.now.items (c.in_default.ensures.none refl)

pub returns : goal.returns
returns c = adds_one c.args.member.now c.args.line.now c.args.gids.now.items c.push.new.self.items c.in-Some.gid c.in-Some.ensures.some c.in_ok-push.ensures.items
