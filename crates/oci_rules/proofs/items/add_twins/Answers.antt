use Rattle.std.proofs.Common.{List, ◌++◌, map, ap, option_map, string_bytes, arith}
use Rattle.serde_json.specs.View.{items_view}
use Rattle.oci_schema.specs.Places.{pointer}
use Rattle.oci_rules.specs.Breaks.{Told}
use Rattle.oci_rules.specs.Tables.{told, rule_of, key_of}
use Rattle.oci_rules.proofs.Steps.{no_twins_yet, twin_step}
use Rattle.oci_rules.proofs.items.add_twins.Goals as goal

pub loop-index-init : goal.loop-index-init
loop-index-init c =
    ap (λ (z : List Told). map told c.args.found.now.items ++ z)
    (no_twins_yet (rule_of c.args.rule.now) (key_of c.args.key.now) (pointer c.args.at.now) c.new-before.result c.new-before.ensures.empty (items_view c.args.items.now.items))

pub loop-index-preserved : goal.loop-index-preserved
loop-index-preserved c =
    twin_step (rule_of c.args.rule.now) (key_of c.args.key.now) (pointer c.args.at.now) _ (map told c.loop-index.found.items) (map told c.add_unless.new.found.items) c.loop-index.before c.put.new.set
    c.args.items.now.items c.deref-item-items.result.now c.loop-index.index c.item-item.result c.has.result (option_map string_bytes c.in_ok-text.text) c.deref-item-items.ensures.value
    (omega arith) c.item-item.is c.loop-index.invariant c.has.ensures c.in_ok-text.ensures c.in_ok-add_unless.ensures c.in_ok-put.ensures
