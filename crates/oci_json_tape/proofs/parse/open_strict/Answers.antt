use Rattle.std.proofs.Common.{Err, sym, ap, ◌∙◌}
use Rattle.oci_json_tape.specs.Fits.{fits}
use Rattle.oci_json_tape.proofs.Bridge.{data_from_fits, no_data, no_data_at_all}
use Rattle.oci_json_tape.proofs.parse.open_strict.Goals as goal

pub returns-then-not-nodes_fit-clause-ok : goal.returns-then-not-nodes_fit-clause-ok
returns-then-not-nodes_fit-clause-ok c =
    no_data c.args.text.now (ap (fits 127) (sym (c.nodes.ensures.tokens ∙ c.in-Ok.ensures.ok.0)) ∙ sym c.nodes_fit.ensures ∙ c.if-not-nodes_fit.true)

pub returns-else-not-nodes_fit-clause-ok : goal.returns-else-not-nodes_fit-clause-ok
returns-else-not-nodes_fit-clause-ok c =
    data_from_fits c.args.text.now c.in-Ok.tape c.in-Ok.ensures.ok.1 c.in-Ok.ensures.value
    (ap (fits 127) (sym (c.nodes.ensures.tokens ∙ c.in-Ok.ensures.ok.0)) ∙ sym c.nodes_fit.ensures ∙ c.if-not-nodes_fit.false)

pub returns-in-Err-Invalid-clause-ok : goal.returns-in-Err-Invalid-clause-ok
returns-in-Err-Invalid-clause-ok c = no_data_at_all c.args.text.now (c.in-Err-Invalid.ensures.invalid (ap Err c.in-Err-Invalid.field-0-is))
