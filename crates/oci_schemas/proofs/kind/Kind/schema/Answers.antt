use Rattle.oci_schemas.proofs.Wells.{schema_well}
use Rattle.oci_schemas.proofs.kind.Kind.schema.Goals as goal

pub returns-clause-well : goal.returns-clause-well
returns-clause-well c = schema_well c.args.self _ c.table.ensures
