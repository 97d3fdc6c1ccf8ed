use Rattle.std.proofs.Common.{Some, None, lit<}
use Rattle.std.proofs.lemmas.Str.Pattern.{split_parts}
use Rattle.oci_commands.proofs.Entries.{seam}
use Rattle.oci_commands.proofs.sums.has_colon.Goals as goal

pub returns-in-Some-clause-has : goal.returns-in-Some-clause-has
returns-in-Some-clause-has c = λ e lacks.
    let parts = split_parts 58 c.args.text.now (Some (c.in-Some.name, c.in-Some.rest)) c.in-Some.ensures.cases (lit< tt) in
    seam 58 c.args.text.now c.in-Some.name.now c.in-Some.rest.now lacks parts.0

pub returns-in-None-clause-lacks : goal.returns-in-None-clause-lacks
returns-in-None-clause-lacks c = λ e. split_parts 58 c.args.text.now None c.in-None.ensures.cases (lit< tt)
