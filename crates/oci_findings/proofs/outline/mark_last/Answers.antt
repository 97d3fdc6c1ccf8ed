use Rattle.std.proofs.Common.{map, ap, refl, sym, ◌∙◌}
use Rattle.std.proofs.lemmas.List.{append-nil}
use Rattle.oci_findings.specs.Outlines.{child_entry}
use Rattle.oci_findings.proofs.Children.{last_again}
use Rattle.oci_findings.proofs.outline.mark_last.Goals as goal

pub returns-in_ok-push-in-Some : goal.returns-in_ok-push-in-Some
returns-in_ok-push-in-Some c =
    last_again child_entry c.args.children.now.items c.pop.new.self.items c.push.new.self.items c.in-Some.last _ c.in-Some.ensures.items c.in_ok-push-in-Some.ensures.items refl

pub returns-in-None : goal.returns-in-None
returns-in-None c = ap (map child_entry) (sym (c.in-None.ensures.items ∙ append-nil c.pop.new.self.items))
