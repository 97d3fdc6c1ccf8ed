use Rattle.std.proofs.Common.{◌-◌}
use Rattle.oci_inspect.proofs.find.Finding.+find_from.Given as goal

abbrev pub decreases-find_from : goal.decreases-find_from
decreases-find_from g l = 16 - l.depth
