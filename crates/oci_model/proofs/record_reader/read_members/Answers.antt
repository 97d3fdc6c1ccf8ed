use Rattle.oci_model.proofs.RecordReaders.{refused_with}
use Rattle.oci_model.proofs.record_reader.read_members.Goals as goal

pub returns-in-Some-clause-err : goal.returns-in-Some-clause-err
returns-in-Some-clause-err g c = refused_with _ _ _ _ c.in-Some.ensures c.read.ensures.err
