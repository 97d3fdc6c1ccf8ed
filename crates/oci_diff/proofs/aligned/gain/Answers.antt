use Rattle.std.proofs.Common.{◌≡◌, Bool, sym, ap, ◌∙◌}
use Rattle.std.specs.Prelude.{if◌then◌else◌}
use Rattle.serde_json.specs.Find.{get_item}
use Rattle.serde_json.specs.View.{items_view}
use Rattle.oci_diff.proofs.Aligning.{item_at}
use Rattle.oci_diff.proofs.Bests.{alike_as, extra_one, extra_none}
use Rattle.oci_diff.specs.Best.{are_alike, extra}
use Rattle.oci_diff.proofs.aligned.gain.Goals as goal
use Rattle.oci_diff.proofs.aligned.gain.Goals.{then-equal_trees, else-equal_trees, then-i-j, else-i-j}

pub returns-clause-gain : goal.returns-clause-gain
returns-clause-gain c =
    let ds = items_view c.args.items.now.items in
    let es = items_view c.args.others.now.items in
    let alike : are_alike (get_item c.args.i ds) (get_item c.args.j es) ≡ c.equal_trees.result =
    alike_as ds es 0 0 c.args.i c.args.j _ _ c.equal_trees.result (item_at _ _ _ c.requires.first c.index.ensures) (item_at _ _ _ c.requires.second c.index-2.ensures) c.equal_trees.ensures in
    let same : c.if-equal_trees.same ≡ (if c.equal_trees.result then 65 else 0) =
    elim c.if-equal_trees.branch
    [ then-equal_trees w ↦ w.same-is ∙ ap (λ (b : Bool). if b then 65 else 0) (sym w.if-equal_trees.true) | else-equal_trees w ↦ w.same-is ∙ ap (λ (b : Bool). if b then 65 else 0) (sym w.if-equal_trees.false) ] in
    let more : c.if-i-j.extra ≡ extra c.args.i c.args.j =
    elim c.if-i-j.branch [ then-i-j w ↦ w.extra-is ∙ sym (extra_one _ _ w.if-i-j.true) | else-i-j w ↦ w.extra-is ∙ sym (extra_none _ _ w.if-i-j.false) ] in
    rw (alike, same, more)
