use Rattle.oci_layers.proofs.Whiteouts.{deletes, deletes_no_name, stands_in}
use Rattle.oci_layers.proofs.laws.whiteout_paths.Goals as goal

pub returns-clause-deleted : goal.returns-clause-deleted
returns-clause-deleted c = deletes

pub returns-clause-opaque : goal.returns-clause-opaque
returns-clause-opaque c = deletes_no_name

pub returns-clause-folder : goal.returns-clause-folder
returns-clause-folder c = stands_in
