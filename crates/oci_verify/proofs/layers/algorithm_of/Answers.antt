use Rattle.serde_json.specs.Find.{as_str}
use Rattle.serde_json.specs.View.{view}
use Rattle.oci_content.specs.declared.algorithm.Algorithm.TheVariants.{Sha256}
use Rattle.oci_verify.proofs.Unpacking.{text_unnamed}
use Rattle.oci_verify.proofs.layers.algorithm_of.Goals as goal

pub returns-in-None-of_digest : goal.returns-in-None-of_digest
returns-in-None-of_digest c = text_unnamed (as_str (view c.args.id.now)) c.in-Some.text.now Sha256 c.in-Some.ensures c.in-None-of_digest.ensures.none
