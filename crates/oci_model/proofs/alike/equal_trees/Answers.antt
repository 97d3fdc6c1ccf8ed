use Rattle.oci_model.specs.SameTrees.{told}
use Rattle.oci_model.proofs.alike.equal_trees.Goals as goal

pub returns : goal.returns
returns c = told c.same.result _ _ c.same.ensures
