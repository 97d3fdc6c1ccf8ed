use Rattle.oci_saved.proofs.Along.{no_text}
use Rattle.oci_saved.proofs.link.target_of.Goals as goal

pub returns-in-Err : goal.returns-in-Err
returns-in-Err c = no_text c.args.path.now c.args.link.now c.in-Err.ensures.cases.0
