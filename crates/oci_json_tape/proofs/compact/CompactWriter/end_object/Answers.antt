-- What was begun is closed.
use Rattle.std.proofs.Common.{sym, subst}
use Rattle.std.proofs.lemmas.Result.{on_ok_weaker}
use Rattle.oci_json_tape.specs.Tokens.{IsOpenObject}
use Rattle.oci_json_tape.proofs.Containers.{closed_object}
use Rattle.oci_json_tape.proofs.compact.CompactWriter.end_object.Goals as goal

pub returns-clause-closed : goal.returns-clause-closed
returns-clause-closed c =
    on_ok_weaker c.end_object.result (λ is start all begun. closed_object start all _ _ (subst (IsOpenObject start all) (sym c.self.view_is) begun) is) c.end_object.ensures.ok
