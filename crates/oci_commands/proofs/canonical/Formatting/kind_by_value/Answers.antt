use Rattle.std.proofs.Common.{refl, rules, sym, inr}
use Rattle.serde_json.specs.View.{view}
use Rattle.oci_json.specs.Engines.{ReadsAs}
use Rattle.oci_findings.proofs.Allowed.{kind_in, not_allowed}
use Rattle.oci_commands.proofs.Forms.{unformatted_wrong}
use Rattle.oci_commands.proofs.canonical.Formatting.kind_by_value.Goals as goal

pub returns-then-wrong-clause-none : goal.returns-then-wrong-clause-none
returns-then-wrong-clause-none g c = λ none. unformatted_wrong c.args.self.now.asked.now c.args.self.now.bytes.now (c.in_ok-wrong.ensures.wrong c.if-wrong.true)

pub returns-in-Some-clause-found : goal.returns-in-Some-clause-found
returns-in-Some-clause-found g c =
    let a = c.args.self.now.asked.now in
    let reads : ReadsAs c.args.self.now.bytes.now (view c.in_ok-value.value) = search rules in
    kind_in a.kind a.file.now c.args.self.now.bytes.now (view c.in_ok-value.value) c.in-Some.kind reads (sym (c.in-Some.ensures (view c.in_ok-value.value) refl))

pub returns-clause-none : goal.returns-clause-none
returns-clause-none g c = λ none.
    let a = c.args.self.now.asked.now in
    let reads : ReadsAs c.args.self.now.bytes.now (view c.in_ok-value.value) = search rules in
    unformatted_wrong a c.args.self.now.bytes.now (not_allowed a.kind a.file.now c.args.self.now.bytes.now (inr (view c.in_ok-value.value, reads, sym (c.in-None.ensures (view c.in_ok-value.value) refl))))
