use Rattle.serde_json.specs.View.{view}
use Rattle.oci_layout.proofs.Descriptors.{none_under, one_under}
use Rattle.oci_layout.proofs.descriptor.Claimed.add_under.Goals as goal

pub returns-in_ok-add-in-Some-clause-held : goal.returns-in_ok-add-in-Some-clause-held
returns-in_ok-add-in-Some-clause-held c =
    one_under c.args.self.now.held.items c.add.new.self.held.items (view c.in-Some.descriptor.now) _ c.in-Some.ensures c.in_ok-add-in-Some.ensures.held

pub returns-in-None-clause-held : goal.returns-in-None-clause-held
returns-in-None-clause-held c = none_under c.args.self.now.held.items _ c.in-None.ensures
