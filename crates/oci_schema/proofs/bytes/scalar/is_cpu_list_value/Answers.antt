use Rattle.oci_schema.proofs.Texts.{cpu_list_same}
use Rattle.oci_schema.proofs.bytes.scalar.is_cpu_list_value.Goals as goal

pub returns : goal.returns
returns c = cpu_list_same c.args.text.now c.is_cpu_list.result c.is_cpu_list.ensures
