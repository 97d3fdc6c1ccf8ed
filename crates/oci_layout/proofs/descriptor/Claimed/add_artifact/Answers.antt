use Rattle.oci_layout.specs.Holds.{HoldsContent}
use Rattle.oci_layout.proofs.Descriptors.{stays_joined}
use Rattle.oci_layout.proofs.descriptor.Claimed.add_artifact.Goals as goal

pub returns-clause-held : goal.returns-clause-held
returns-clause-held c =
    stays_joined HoldsContent c.args.self.now.held.items c.add_listed.new.self.held.items c.add_under.new.self.held.items _ _
    c.in_ok-add_listed.ensures.held c.in_ok-add_under.ensures.held
