use Rattle.std.proofs.Common.{sym, ◌∙◌}
use Rattle.serde_json.specs.View.{view}
use Rattle.oci_saved.proofs.Layers.{layer_right, layer_wrong}
use Rattle.oci_saved.proofs.check.Check.layer_fault.Goals as goal

pub returns-then-is_same : goal.returns-then-is_same
returns-then-is_same g c =
    layer_right _ _ (view c.args.layer.now) (view c.args.id.now) _ _ c.in_ok-judged.judged c.text_of.ensures c.text_of-2.ensures c.in_ok-judged.ensures (sym c.is_same.ensures ∙ c.if-is_same.true)

pub returns-else-is_same : goal.returns-else-is_same
returns-else-is_same g c =
    layer_wrong _ _ (view c.args.layer.now) (view c.args.id.now) _ _ c.in_ok-judged.judged c.text_of.ensures c.text_of-2.ensures c.in_ok-judged.ensures (sym c.is_same.ensures ∙ c.if-is_same.false)
