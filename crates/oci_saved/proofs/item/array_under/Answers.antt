use Rattle.std.proofs.Common.{List, map, ap, ◌∙◌}
use Rattle.serde_json.specs.View.{view}
use Rattle.serde_json.specs.declared.value.Value.{Value}
use Rattle.oci_layout.proofs.Items.{items_seen}
use Rattle.oci_saved.proofs.item.array_under.Goals as goal

pub returns-in-Some : goal.returns-in-Some
returns-in-Some c = ap (λ (vs : List Value). map view vs) c.as_slice.ensures.value ∙ items_seen c.in-Some.items.now.items _ c.in-Some.ensures
