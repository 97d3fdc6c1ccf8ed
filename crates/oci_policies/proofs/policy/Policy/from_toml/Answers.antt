use Rattle.std.proofs.lemmas.Result.{IfErr-weaker}
use Rattle.toml.specs.View.{table_view}
use Rattle.oci_policies.proofs.Documents.{no_books}
use Rattle.oci_policies.proofs.policy.Policy.from_toml.Goals as goal

pub returns-in-Ok-clause-refused : goal.returns-in-Ok-clause-refused
returns-in-Ok-clause-refused c =
    IfErr-weaker c.read.result _ _ (λ e none memory small. no_books c.args.text.now (table_view c.in-Ok.table) c.in-Ok.ensures.ok (none memory small)) c.read.ensures.refused
