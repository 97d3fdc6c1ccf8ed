use Rattle.std.proofs.Common.{rules}
use Rattle.oci_inspect.proofs.meant.best.Goals as goal

pub returns-in-None-clause-err : goal.returns-in-None-clause-err
returns-in-None-clause-err c = c.in_ok-descriptor.ensures.none.0 (search rules)
