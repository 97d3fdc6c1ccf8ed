use Rattle.std.proofs.Common.{◌≡◌, [], ◌∷◌, ◌++◌, map, rules, sym, ap, subst, ◌∙◌, append_assoc, arith}
use Rattle.oci_findings.specs.Outlines.{child_entry}
use Rattle.oci_layout.proofs.Walks.{drained}
use Rattle.oci_commands.specs.Trees.{AreAlone}
use Rattle.oci_commands.specs.Trees.AreTrees.{none}
use Rattle.oci_commands.proofs.Trees.{alone_more}
use Rattle.oci_commands.proofs.outline.rows_of.Goals as goal

pub each-init : goal.each-init
each-init c = record {
  whole = search rules;
  alone = subst (AreAlone []) (sym c.new-rows.ensures.items) (none []);
}

pub each-preserved : goal.each-preserved
each-preserved c =
    let loop = c.each in
    let steps = c.in-Some.ensures.steps in
    let row = c.in_ok-row.row in
    record {
      whole = loop.invariant.whole ∙ ap (λ l. loop.yielded ++ l) steps.0 ∙ sym (append_assoc loop.yielded (c.in-Some.child ∷ []) c.next.new.self.rest.items);
      alone = subst (AreAlone (map child_entry (loop.yielded ++ c.in-Some.child ∷ []))) (sym c.in_ok-push.ensures.items)
          (alone_more loop.yielded c.in-Some.child loop.rows.items row loop.invariant.alone c.in_ok-row.ensures.line c.in_ok-row.ensures.mark);
    }

pub returns : goal.returns
returns c =
    let loop = c.each in
    let steps = c.in-None.ensures.steps in
    let ok = loop.child-iterator.rest.ok in
    let all : c.args.children.items ≡ loop.yielded = drained loop.yielded loop.child-iterator.rest.items c.args.children.items loop.invariant.whole (omega arith) in
    subst (λ l. AreAlone (map child_entry l) loop.rows.items) (sym all) loop.invariant.alone
