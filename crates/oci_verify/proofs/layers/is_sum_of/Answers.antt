use Rattle.serde_json.specs.Find.{as_str}
use Rattle.serde_json.specs.View.{view}
use Rattle.oci_verify.proofs.Unpacking.{sum_named, sum_unnamed}
use Rattle.oci_verify.proofs.layers.is_sum_of.Goals as goal

pub returns-in-Some-of_digest : goal.returns-in-Some-of_digest
returns-in-Some-of_digest c =
    sum_named (as_str (view c.args.id.now)) c.in-Some.text.now c.in-Some-of_digest.field-0 c.args.sum.now c.is_text.result c.in-Some.ensures c.in-Some-of_digest.ensures.some c.is_text.ensures

pub returns-in-None-of_digest : goal.returns-in-None-of_digest
returns-in-None-of_digest c = sum_unnamed (as_str (view c.args.id.now)) c.in-Some.text.now c.args.sum.now c.in-Some.ensures c.in-None-of_digest.ensures.none
