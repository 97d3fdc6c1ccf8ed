use Rattle.std.proofs.Common.{◌≡◌, ◌∙◌, false, rules, sym}
use Rattle.oci_findings.specs.FoundKind.{all_kinds}
use Rattle.oci_commands.specs.Books.{has_rule}
use Rattle.oci_commands.proofs.Rows.{none_here}
use Rattle.oci_commands.proofs.books.is_rule.Goals as goal

pub loop-kind-preserved : goal.loop-kind-preserved
loop-kind-preserved g c =
    let no : c.in_ok-is_rule_for.field-0 ≡ false = search rules in
    none_here (λ kind. has_rule c.args.name.now (g.B.RuleBooks.rules c.args.books.now kind)) all_kinds c.loop-kind.kind-index _ _ c.loop-kind-test.true (sym c.in_ok-is_rule_for.ensures ∙ no) c.loop-kind.invariant
