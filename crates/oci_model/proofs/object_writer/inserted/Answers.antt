-- The members with the one that is put.
use Rattle.std.proofs.Common.{refl}
use Rattle.oci_model.proofs.Writers.{inserted}
use Rattle.oci_model.proofs.object_writer.inserted.Goals as goal

pub returns-clause-ok : goal.returns-clause-ok
returns-clause-ok c = inserted _ _ _ _ c.args.name.now _ c.in_ok-insert.ensures.entries c.in_ok-key.ensures.ok refl
