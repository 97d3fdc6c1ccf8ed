use Rattle.std.proofs.Common.{Some, None, lit<}
use Rattle.std.proofs.lemmas.Str.Pattern.{split_parts}
use Rattle.oci_rules.proofs.Cuts.{front_is, whole_is}
use Rattle.oci_agreement.specs.Agree.{colon}
use Rattle.oci_agreement.proofs.layers.algorithm.Goals as goal

pub returns-in-Some : goal.returns-in-Some
returns-in-Some c =
    let cut = split_parts colon c.args.digest.now (Some (c.in-Some.algorithm, c.in-Some.field-0-1)) c.in-Some.ensures.cases (lit< tt) in
    front_is colon c.args.digest.now c.in-Some.algorithm.now c.in-Some.field-0-1.now cut.0 cut.1

pub returns-in-None : goal.returns-in-None
returns-in-None c = whole_is colon c.args.digest.now (split_parts colon c.args.digest.now None c.in-None.ensures.cases (lit< tt))
