-- What was put in.
use Rattle.oci_text.proofs.CapSets.{default_is}
use Rattle.oci_text.proofs.capabilities.default_capabilities.Goals as goal

pub returns-clause-ok : goal.returns-clause-ok
returns-clause-ok c =
    default_is c.new-set.result c.insert.new.self c.insert-2.new.self c.insert-3.new.self c.new-set.ensures.empty c.in_ok-insert.ensures.updates c.in_ok-insert-2.ensures.updates c.in_ok-insert-3.ensures.updates
