use Rattle.std.proofs.Common.{string_bytes, ap, ◌∙◌}
use Rattle.oci_model.proofs.KeySets.{one_more}
use Rattle.oci_model.proofs.key_sets.objects_of.Goals as goal

pub loop-name-preserved : goal.loop-name-preserved
loop-name-preserved c =
    one_more c.loop-name.members.entries c.insert.new.self.entries c.in_ok-name.name c.name-item.result c.new.result c.deref-name-items.result.now c.loop-name.name-index
    c.in_ok-insert.ensures.entries c.new.ensures.empty c.loop-name.invariant (c.in_ok-name.ensures.cases ∙ ap string_bytes c.name-item.is) c.loop-name-test.true
