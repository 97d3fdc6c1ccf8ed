use Rattle.std.proofs.Common.{◌++◌, map, ap, ◌∙◌}
use Rattle.std.proofs.lemmas.Result.{on_ok_weaker}
use Rattle.oci_findings.specs.Outlines.{child_entry, entry_of}
use Rattle.oci_findings.proofs.Children.{items_shown}
use Rattle.oci_findings.proofs.outline.add_listed.Goals as goal

pub returns-in-Some : goal.returns-in-Some
returns-in-Some c =
    on_ok_weaker c.add_each.result
    (λ e. e ∙ ap (λ l. map child_entry c.args.children.now.items ++ l) (items_shown (entry_of c.args.role) c.in-Some.items.now.items _ c.in-Some.ensures))
    c.add_each.ensures
