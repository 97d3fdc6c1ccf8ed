use Rattle.std.proofs.Common.{◌∙◌, ap}
use Rattle.serde_json.specs.View.{members_view}
use Rattle.oci_agreement.specs.Copies.{expected_of, found_of}
use Rattle.oci_agreement.specs.Listed.{copy_told}
use Rattle.oci_agreement.proofs.Steps.{keys_more}
use Rattle.oci_agreement.proofs.annotations.add_each_copy.Goals as goal

pub loop-name-preserved : goal.loop-name-preserved
loop-name-preserved c =
    keys_more (copy_told c.args.copies.document c.args.copies.pointer.now (expected_of c.args.copies) (found_of c.args.copies)) _ _ _ c.in_ok-add_copy.ensures _ _ _ _
    (ap members_view c.in-Some.ensures.steps) c.as_str.ensures.value ∙ c.loop-name.invariant
