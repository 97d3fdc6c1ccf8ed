use Rattle.oci_model.specs.Variants.{listed}
use Rattle.oci_text.specs.Capability.{capability_name, capability_table, all_capability, capability_back}
use Rattle.oci_schema.proofs.Texts.{capability_same}
use Rattle.oci_schema.proofs.scalar.is_capability.Goals as goal

pub returns : goal.returns
returns c =
    capability_same capability_name capability_table (listed capability_name all_capability capability_back) c.args.text.now c.from_json_name.result c.is_some.result c.is_some.ensures
    c.from_json_name.ensures.some c.from_json_name.ensures.none
