use Rattle.std.proofs.Common.{map, string_bytes, refl, arith}
use Rattle.oci_schema.specs.Places.{pointer}
use Rattle.oci_schema.proofs.Repeats.{item_smaller, item_step, items_done, members_done, name_smaller, name_step}
use Rattle.oci_schema.proofs.twice.+twice.Goals as goal

pub add_members-loop-name-preserved : goal.add_members-loop-name-preserved
add_members-loop-name-preserved t c = record {
  all =
      name_step (pointer c.args.at.now) _ (map string_bytes c.loop-name.found.items) (map string_bytes c.add_if.new.found.items) (map string_bytes c.add_value.new.found.items) c.loop-name.before c.put.new.names
      c.args.members.now c.loop-name.name-index c.loop-name-item.result c.contains.result _ _ (omega arith) c.loop-name-item.is
      c.loop-name.invariant.all c.contains.ensures refl refl c.in_ok-add_if.ensures
      c.in_ok-add_value.ensures c.in_ok-put.ensures;
  smaller = name_smaller c.args.members.now c.loop-name.name-index c.loop-name-item.result (omega arith) c.loop-name-item.is c.loop-name.invariant.smaller;
}

pub add_items-loop-index-preserved : goal.add_items-loop-index-preserved
add_items-loop-index-preserved t c = record {
  all =
      item_step (pointer c.args.at.now) (map string_bytes c.loop-index.found.items) (map string_bytes c.add_value.new.found.items) _ c.args.items.now c.loop-index.index c.index-items-index.result
      _ c.loop-index-test.true c.index-items-index.is c.loop-index.invariant.all refl c.in_ok-add_value.ensures;
  smaller = item_smaller c.args.items.now c.loop-index.index c.index-items-index.result c.loop-index-test.true c.index-items-index.is c.loop-index.invariant.smaller;
}

pub add_items-returns : goal.add_items-returns
add_items-returns t c =
    items_done (pointer c.args.at.now) (map string_bytes c.loop-index.found.items) _ c.args.items.now c.loop-index.index c.loop-index-test.false c.loop-index.invariant.all

pub add_members-returns : goal.add_members-returns
add_members-returns t c =
    members_done (pointer c.args.at.now) (map string_bytes c.loop-name.found.items) _ _ c.args.members.now c.loop-name.name-index c.loop-name-test.false c.loop-name.invariant.all
