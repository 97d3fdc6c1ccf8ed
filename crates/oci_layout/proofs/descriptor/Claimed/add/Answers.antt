use Rattle.serde_json.specs.View.{view}
use Rattle.oci_layout.proofs.Descriptors.{added_held}
use Rattle.oci_layout.proofs.descriptor.Claimed.add.Goals as goal

pub returns-clause-held : goal.returns-clause-held
returns-clause-held c =
    added_held c.args.self.now.held.items c.add_held.new.self.held.items (view c.args.value.now) c.in_ok-claim.claim c.args.role c.in_ok-embedded.embedded
    c.in_ok-claim.ensures c.in_ok-embedded.ensures c.in_ok-add_held.ensures.held
