use Rattle.std.proofs.Common.{◌≡◌, ◌<◌, true, false, length, map, ap, ◌∙◌, rules}
use Rattle.oci_rules.specs.Tables.{rule_of}
use Rattle.oci_findings.specs.Findings.{breach}
use Rattle.oci_findings.specs.Checks.{is_error}
use Rattle.oci_findings.proofs.Counted.{one_kept, one_passed}
use Rattle.oci_findings.proofs.examine.add_counted.Goals.{then-is_error+in_ok-add_rule_finding, else-is_error+in_ok-warn_if_heard}
use Rattle.oci_findings.proofs.examine.add_counted.Goals as goal

pub loop-item-preserved : goal.loop-item-preserved
loop-item-preserved c =
    let lt : c.loop-item.item-index < length c.args.listed.now.items = search rules in
    elim c.if-is_error.branch [
      | then-is_error+in_ok-add_rule_finding w ↦ (
          let yes : is_error c.args.asked.now (rule_of c.item-item.result.rule.now) ≡ true = search rules in
          ap (λ v. map breach v.items) w.found-is
          ∙ one_kept (λ x. is_error c.args.asked.now x.0) _ c.loop-item.found.items c.args.found.now.items c.args.listed.now.items c.loop-item.item-index c.item-item.result lt (search rules) yes w.in_ok-add_rule_finding.ensures c.loop-item.invariant)
      | else-is_error+in_ok-warn_if_heard w ↦ (
          let no : is_error c.args.asked.now (rule_of c.item-item.result.rule.now) ≡ false = search rules in
          ap (λ v. map breach v.items) w.found-is
          ∙ one_passed (λ x. is_error c.args.asked.now x.0) c.loop-item.found.items c.args.found.now.items c.args.listed.now.items c.loop-item.item-index c.item-item.result lt (search rules) no c.loop-item.invariant)
    ]
