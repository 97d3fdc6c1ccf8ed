use Rattle.std.proofs.Common.{Some, None, lit<}
use Rattle.std.proofs.lemmas.Str.Pattern.{split_parts}
use Rattle.oci_convert.proofs.Cuts.{front_is, whole_is}
use Rattle.oci_convert.proofs.environment.name_of.Goals as goal

pub returns-in-Some : goal.returns-in-Some
returns-in-Some c =
    let cut = split_parts 61 c.args.entry.now (Some (c.in-Some.name, c.in-Some.field-0-1)) c.in-Some.ensures.cases (lit< tt) in
    front_is 61 c.args.entry.now c.in-Some.name.now c.in-Some.field-0-1.now cut.0 cut.1

pub returns-in-None : goal.returns-in-None
returns-in-None c = whole_is 61 c.args.entry.now (split_parts 61 c.args.entry.now None c.in-None.ensures.cases (lit< tt))
