use Rattle.oci_model.specs.SameFree.{told}
use Rattle.oci_model.proofs.alike.equal_values.Goals as goal

pub returns : goal.returns
returns c = told c.same_values.result c.args.a.now c.args.b.now c.same_values.ensures
