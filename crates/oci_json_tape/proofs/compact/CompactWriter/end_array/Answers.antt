-- What was begun is closed.
use Rattle.std.proofs.Common.{sym, subst}
use Rattle.std.proofs.lemmas.Result.{on_ok_weaker}
use Rattle.oci_json_tape.specs.Tokens.{IsOpenArray}
use Rattle.oci_json_tape.proofs.Containers.{closed_array}
use Rattle.oci_json_tape.proofs.compact.CompactWriter.end_array.Goals as goal

pub returns-clause-closed : goal.returns-clause-closed
returns-clause-closed c =
    on_ok_weaker c.end_array.result (λ is start all begun. closed_array start all _ _ (subst (IsOpenArray start all) (sym c.self.view_is) begun) is) c.end_array.ensures.ok
