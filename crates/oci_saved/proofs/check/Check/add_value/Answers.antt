use Rattle.serde_json.specs.View.{view}
use Rattle.oci_saved.proofs.Adds.{some_listed}
use Rattle.oci_saved.proofs.Configs.{no_config}
use Rattle.oci_saved.proofs.check.Check.add_value.Goals as goal

pub returns-then-not-is_empty : goal.returns-then-not-is_empty
returns-then-not-is_empty g c =
    let listed = c.in_ok-violations.violations in
    no_config _ _ c.args.self.now.limit c.args.at (view c.args.item.now) (view c.args.config.now) listed c.args.found.now.items c.push.new.self.items c.in_ok-push.ensures.items
    (some_listed _ listed.items listed.len c.is_empty.result listed.ok.0 c.is_empty.ensures c.if-not-is_empty.true c.in_ok-violations.ensures.1)
