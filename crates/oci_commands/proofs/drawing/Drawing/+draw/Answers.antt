use Rattle.std.proofs.Common.{◌≡◌, [], ◌∷◌, ◌++◌, map, rules, sym, ap, subst, ◌∙◌, append_assoc, arith}
use Rattle.std.proofs.lemmas.Result.{on_ok_weaker}
use Rattle.oci_findings.specs.Outlines.{child_entry, trunk}
use Rattle.oci_layout.specs.declared.top.TheConstants.{DOCUMENT_LIMIT}
use Rattle.oci_layout.proofs.Walks.{drained}
use Rattle.oci_commands.specs.Trees.{AddsTrees}
use Rattle.oci_commands.proofs.Trees.{kept_both, tree_alone, tree_over, trees_none, trees_more}
use Rattle.oci_commands.proofs.drawing.Drawing.+draw.Goals as goal

pub draw_all-each-init : goal.draw_all-each-init
draw_all-each-init g t c = record {
  whole = search rules;
  said = λ before. before;
  trees = trees_none _ _ _;
}

pub draw_all-each-preserved : goal.draw_all-each-preserved
draw_all-each-preserved g t c =
    let contents = g.L.Store.contents c.args.self.now.layout.now in
    let steady = g.L.Store.steady c.args.self.now.layout.now in
    let loop = c.each in
    let steps = c.in-Some.ensures.steps in
    let old = c.args.drawn.now.rows.items in
    record {
      whole = loop.invariant.whole ∙ ap (λ l. loop.yielded ++ l) steps.0 ∙ sym (append_assoc loop.yielded (c.in-Some.child ∷ []) c.next.new.self.rest.items);
      said = kept_both DOCUMENT_LIMIT steady contents old loop.drawn.rows.items c.draw_one.new.drawn.rows.items loop.invariant.said c.in_ok-draw_one.ensures.said;
      trees = trees_more contents c.args.before.now loop.yielded c.in-Some.child old loop.drawn.rows.items c.draw_one.new.drawn.rows.items loop.invariant.trees
          c.in_ok-draw_one.ensures.tree;
    }

pub draw_all-returns-clause-trees : goal.draw_all-returns-clause-trees
draw_all-returns-clause-trees g t c =
    let loop = c.each in
    let steps = c.in-None.ensures.steps in
    let ok = loop.child-iterator.rest.ok in
    let all : c.args.children.items ≡ loop.yielded = drained loop.yielded loop.child-iterator.rest.items c.args.children.items loop.invariant.whole (omega arith) in
    subst (λ l. AddsTrees (g.L.Store.contents c.args.self.now.layout.now) c.args.before.now (map child_entry l) c.args.drawn.now.rows.items loop.drawn.rows.items) (sym all)
    loop.invariant.trees

pub draw_one-returns-then-depth-eq0-clause-tree : goal.draw_one-returns-then-depth-eq0-clause-tree
draw_one-returns-then-depth-eq0-clause-tree g t c =
    tree_alone (g.L.Store.contents c.args.self.now.layout.now) c.args.before.now c.args.child (map child_entry c.in_ok-children.children.items) c.args.drawn.now.rows.items
    c.draw_line.new.drawn.rows.items (ap (map child_entry) (c.in_ok-children.ensures.deep c.if-depth-eq0.true)) c.in_ok-children.ensures.line

pub draw_one-returns-clause-said : goal.draw_one-returns-clause-said
draw_one-returns-clause-said g t c =
    on_ok_weaker c.draw_all.result
    (kept_both DOCUMENT_LIMIT (g.L.Store.steady c.args.self.now.layout.now) (g.L.Store.contents c.args.self.now.layout.now) c.args.drawn.now.rows.items
    c.draw_line.new.drawn.rows.items c.draw_all.new.drawn.rows.items c.in_ok-children.ensures.said)
    c.draw_all.ensures.said

pub draw_one-returns-clause-tree : goal.draw_one-returns-clause-tree
draw_one-returns-clause-tree g t c =
    let contents = g.L.Store.contents c.args.self.now.layout.now in
    let inner = map child_entry c.in_ok-children.children.items in
    let mid = c.draw_line.new.drawn.rows.items in
    let new = c.draw_all.new.drawn.rows.items in
    let before : c.as_str.result.now ≡ c.args.before.now ++ trunk c.args.child.is_last = search rules in
    on_ok_weaker c.draw_all.result
    (λ more. tree_over contents c.args.before.now c.args.child inner c.args.drawn.now.rows.items mid new c.in_ok-children.ensures.line
    (subst (λ l. AddsTrees contents l inner mid new) before more))
    c.draw_all.ensures.trees
