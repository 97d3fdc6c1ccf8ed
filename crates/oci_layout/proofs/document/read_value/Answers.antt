use Rattle.std.proofs.Common.{None, sym, ◌∙◌}
use Rattle.serde_json.specs.View.{view}
use Rattle.oci_layout.specs.declared.claim.Detail.{Detail}
use Rattle.oci_layout.proofs.Details.{empty_list, against_goes}
use Rattle.oci_layout.proofs.document.read_value.Goals as goal

pub invariant_of-result-2 : goal.invariant_of-result-2
invariant_of-result-2 c =
    let listed = c.in_ok-violations.violations in
    let seen : Detail = record { held = c.in_ok-claimed.claimed.held; violations = listed; text = None; why = None } in
    record {
      goes = against_goes c.fault_against.result c.args.kind (view c.args.value.now) seen (empty_list listed.items listed.len listed.ok.0 (sym c.is_empty.ensures ∙ c.if-not-is_empty.false))
          c.in_ok-claimed.ensures.held c.fault_against.ensures;
    }
