use Rattle.std.proofs.Common.{[], take, arith}
use Rattle.oci_layers.specs.Decided.{findings_behind, members}
use Rattle.oci_layers.proofs.Told.{listed, none_listed, whole}
use Rattle.oci_layers.proofs.broken.broken_rules.Goals as goal

pub returns-clause-all : goal.returns-clause-all
returns-clause-all c =
    let places = c.args.places.now in
    whole places (members (take c.each.at places)) c.each.at c.each.found.items (findings_behind [] (members places)) (omega arith) c.each.invariant.found

pub returns-clause-listed : goal.returns-clause-listed
returns-clause-listed c = listed (members c.args.places.now) c.each.found.items (returns-clause-all c)

pub returns-clause-none : goal.returns-clause-none
returns-clause-none c = none_listed (members c.args.places.now) c.each.found.items (returns-clause-all c)
