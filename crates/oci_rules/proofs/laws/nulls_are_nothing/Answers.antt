use Rattle.oci_rules.proofs.NullPlaces.{same, whatever, platform_same}
use Rattle.oci_rules.proofs.laws.nulls_are_nothing.Goals as goal

pub returns-clause-same : goal.returns-clause-same
returns-clause-same c = same

pub returns-clause-whatever : goal.returns-clause-whatever
returns-clause-whatever c = whatever

pub returns-clause-platform : goal.returns-clause-platform
returns-clause-platform c = platform_same
