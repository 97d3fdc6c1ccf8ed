use Rattle.std.proofs.Common.{subst}
use Rattle.std.specs.Prelude.{IfSome}
use Rattle.oci_findings.specs.Forms.{IsForm}
use Rattle.oci_commands.proofs.Held.{form_made}
use Rattle.oci_commands.proofs.canonical.Formatting.canonical_form.Goals as goal

pub returns-in-Some-clause-ok : goal.returns-in-Some-clause-ok
returns-in-Some-clause-ok c =
    form_made c.args.self.now.asked.now.pretty c.args.kind c.args.self.now.bytes.now c.in-Some.text.items
    (subst (λ o. IfSome o (λ t. IsForm c.args.self.now.asked.now.pretty c.args.kind c.args.self.now.bytes.now t.items)) c.in-Some.is c.requires)
