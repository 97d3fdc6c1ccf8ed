use Rattle.std.proofs.Common.{◌≡◌, [], sym, subst}
use Rattle.std.specs.Prelude.{◌↔◌}
use Rattle.serde_json.specs.View.{view}
use Rattle.oci_findings.specs.Checks.{AllKept}
use Rattle.oci_findings.proofs.examine.lost_members.Goals as goal

pub returns : goal.returns
returns c = subst (λ v. (v.items ≡ []) ↔ AllKept c.args.kind (view c.args.value.now) c.args.bytes.now) (sym c.in_ok-report.ensures.errors) c.in_ok-errors.ensures
