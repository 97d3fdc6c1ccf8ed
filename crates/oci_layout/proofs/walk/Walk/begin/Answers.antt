use Rattle.oci_layout.proofs.Walks.{only_first}
use Rattle.oci_layout.proofs.walk.Walk.begin.Goals as goal

pub returns-clause-only : goal.returns-clause-only
returns-clause-only c = only_first c.add_all.new.self.claims.items c.new.result.items c.args.first.items c.new.ensures.items c.in_ok-add_all.ensures.only
