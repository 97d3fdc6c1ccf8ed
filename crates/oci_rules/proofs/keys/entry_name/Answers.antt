use Rattle.std.proofs.Common.{Some, None, lit<}
use Rattle.std.proofs.lemmas.Str.Pattern.{split_parts}
use Rattle.oci_rules.specs.Parts.{equals}
use Rattle.oci_rules.proofs.Cuts.{front_is, whole_is}
use Rattle.oci_rules.proofs.keys.entry_name.Goals as goal

pub returns-in-Some : goal.returns-in-Some
returns-in-Some c =
    let cut = split_parts equals c.args.text.now (Some (c.in-Some.name, c.in-Some.field-0-1)) c.in-Some.ensures.cases (lit< tt) in
    front_is equals c.args.text.now c.in-Some.name.now c.in-Some.field-0-1.now cut.0 cut.1

pub returns-in-None : goal.returns-in-None
returns-in-None c = whole_is equals c.args.text.now (split_parts equals c.args.text.now None c.in-None.ensures.cases (lit< tt))
