use Rattle.std.proofs.Common.{string_bytes, ap, ◌∙◌}
use Rattle.std.specs.List.{join_with_byte}
use Rattle.oci_convert.proofs.Joins.{joined_more}
use Rattle.oci_convert.proofs.Steps.{all_texts}
use Rattle.oci_convert.proofs.texts.joined.Goals as goal

pub loop-i-preserved : goal.loop-i-preserved
loop-i-preserved c =
    joined_more 44 c.deref-text-items.result.now c.loop-i.i c.text-item.result (string_bytes c.loop-i.joined) (string_bytes c.push_piece.new.joined) c.as_str.result.now
    c.loop-i-test.true c.loop-i.invariant (c.as_str.ensures.value ∙ ap string_bytes c.text-item.is) c.in_ok-push_piece.ensures

pub returns : goal.returns
returns c = c.loop-i.invariant ∙ ap (join_with_byte 44) (all_texts c.deref-text-items.result.now c.args.texts.now.items c.loop-i.i c.loop-i-test.false c.deref-text-items.ensures.value)
