use Rattle.std.proofs.Common.{rules}
use Rattle.serde_json.specs.View.{view}
use Rattle.oci_diff.proofs.Adds.{none_found}
use Rattle.oci_diff.proofs.Ways.{to_itself}
use Rattle.oci_diff.proofs.changes.differences.Goals as goal

pub returns-clause-none : goal.returns-clause-none
returns-clause-none c = none_found _ c.new-found.result.items _ c.new-found.ensures.items c.in_ok-add_differences.ensures.same c.in_ok-add_differences.ensures.other

pub returns-clause-each : goal.returns-clause-each
returns-clause-each c =
    c.in_ok-add_differences.ensures.so (view c.args.before.now) (view c.args.after.now) (to_itself _, to_itself _) (search rules)
