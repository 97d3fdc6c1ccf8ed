use Rattle.std.proofs.Common.{List, IsTrue, subst}
use Rattle.std.specs.Prelude.{◌↔◌}
use Rattle.std.specs.List.{All}
use Rattle.serde_json.specs.View.{view}
use Rattle.serde_json.specs.declared.value.Value.{Value}
use Rattle.oci_saved.specs.Saved.{IsString}
use Rattle.oci_saved.proofs.Strings.{strings}
use Rattle.oci_saved.proofs.item.may_be_strings.Goals as goal

pub returns-in-Some-as_array : goal.returns-in-Some-as_array
returns-in-Some-as_array c =
    strings c.are_strings.result c.in-Some-as_array.texts.now.items (view c.in-Some.texts.now) _ c.in-Some.ensures c.in-Some-as_array.ensures
    (subst (λ (vs : List Value). IsTrue c.are_strings.result ↔ All (λ v. IsString (view v)) vs) c.as_slice.ensures.value c.are_strings.ensures)
