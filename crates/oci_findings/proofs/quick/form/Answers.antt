use Rattle.std.proofs.Common.{sym, subst}
use Rattle.std.specs.Prelude.{IfSome}
use Rattle.serde_json.specs.Data.{Data}
use Rattle.oci_json.specs.Engines.{ReadsAs}
use Rattle.oci_json_tape.specs.Elements.{BeginsWithData}
use Rattle.oci_findings.specs.Forms.{IsForm}
use Rattle.oci_findings.proofs.quick.form.Goals as goal

pub returns-then-pretty : goal.returns-then-pretty
returns-then-pretty c =
    subst (λ b. IfSome c.pretty_form.result (λ t. (d : Data) → ReadsAs c.args.bytes.now d → BeginsWithData c.args.tape.now d → IsForm b c.args.kind c.args.bytes.now t.items)) (sym c.if-pretty.true) c.pretty_form.ensures

pub returns-else-pretty : goal.returns-else-pretty
returns-else-pretty c =
    subst (λ b. IfSome c.compact_form.result (λ t. (d : Data) → ReadsAs c.args.bytes.now d → BeginsWithData c.args.tape.now d → IsForm b c.args.kind c.args.bytes.now t.items)) (sym c.if-pretty.false) c.compact_form.ensures
