use Rattle.std.proofs.Common.{◌∙◌, ◌++◌, List, ℕ, ap, string_bytes}
use Rattle.oci_findings.specs.FoundKind.{all_kinds}
use Rattle.oci_commands.specs.RuleTexts.{IsToldOfKind, named}
use Rattle.oci_commands.proofs.Lines.{joined_next}
use Rattle.oci_commands.proofs.rules_named.told_of_name.Goals as goal

pub loop-kind-preserved : goal.loop-kind-preserved
loop-kind-preserved g c =
    joined_next (λ kind. IsToldOfKind (named c.args.name.now (g.B.RuleBooks.rules c.args.books.now kind))) all_kinds c.loop-kind.kind-index _ (string_bytes c.loop-kind.text)
    (string_bytes c.in_ok-told.told) _ c.loop-kind-test.true (c.in_ok-push_str.ensures.bytes ∙ ap (λ (q : List ℕ). string_bytes c.loop-kind.text ++ q) c.as_str.ensures.value)
    c.loop-kind.invariant c.in_ok-told.ensures
