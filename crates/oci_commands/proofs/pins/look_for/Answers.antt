use Rattle.std.proofs.Common.{◌≡◌, subst}
use Rattle.std.specs.Prelude.{IfOk}
use Rattle.oci_commands.specs.Pins.{HasNoTarget, IsTarget, OnSought}
use Rattle.oci_commands.specs.declared.asked.Target.TheVariants.{Tagged}
use Rattle.oci_commands.proofs.pins.look_for.Goals as goal

pub returns-in-Tagged : goal.returns-in-Tagged
returns-in-Tagged g c =
    let same : Tagged c.in-Tagged.file c.in-Tagged.tag ≡ c.args.target.now = (let is = c.in-Tagged.is in cc) in
    subst (λ t. IfOk c.by_name.result (OnSought (IsTarget (g.S.Files.holds c.args.store.now) t) (HasNoTarget (g.S.Files.holds c.args.store.now) t))) same c.by_name.ensures
