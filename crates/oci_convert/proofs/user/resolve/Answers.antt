use Rattle.std.proofs.Common.{Some, None, lit<}
use Rattle.std.proofs.lemmas.Str.Pattern.{split_parts}
use Rattle.oci_convert.proofs.Cuts.{cut_at_colon, no_colon}
use Rattle.oci_convert.proofs.UserParts.{cut_ok, cut_err, whole_ok, whole_err}
use Rattle.oci_convert.proofs.user.resolve.Goals as goal

pub returns-in-Some-clause-ok : goal.returns-in-Some-clause-ok
returns-in-Some-clause-ok g c =
    let cut = split_parts 58 c.args.text.now (Some (c.in-Some.user, c.in-Some.group)) c.in-Some.ensures.cases (lit< tt) in
    cut_ok _ _ _ (g.A.Accounts.are_groups c.args.accounts.now) c.args.text.now c.in-Some.user.now c.in-Some.group.now c.as_bytes.result.now c.as_bytes-in-Some.result.now c.with_group.result
    (cut_at_colon c.args.text.now c.in-Some.user.now c.in-Some.group.now cut.0 cut.1) c.as_bytes.ensures.value c.as_bytes-in-Some.ensures.value c.with_group.ensures.ok

pub returns-in-Some-clause-err : goal.returns-in-Some-clause-err
returns-in-Some-clause-err g c =
    let cut = split_parts 58 c.args.text.now (Some (c.in-Some.user, c.in-Some.group)) c.in-Some.ensures.cases (lit< tt) in
    cut_err _ _ c.args.text.now c.in-Some.user.now c.in-Some.group.now c.as_bytes.result.now c.as_bytes-in-Some.result.now c.with_group.result
    (cut_at_colon c.args.text.now c.in-Some.user.now c.in-Some.group.now cut.0 cut.1) c.as_bytes.ensures.value c.as_bytes-in-Some.ensures.value c.with_group.ensures.err

pub returns-in-None-clause-ok : goal.returns-in-None-clause-ok
returns-in-None-clause-ok g c =
    whole_ok _ _ _ _ c.args.text.now c.as_bytes-in-None.result.now c.alone.result (no_colon c.args.text.now (split_parts 58 c.args.text.now None c.in-None.ensures.cases (lit< tt))) c.as_bytes-in-None.ensures.value c.alone.ensures.ok

pub returns-in-None-clause-err : goal.returns-in-None-clause-err
returns-in-None-clause-err g c =
    whole_err _ _ c.args.text.now c.as_bytes-in-None.result.now c.alone.result (no_colon c.args.text.now (split_parts 58 c.args.text.now None c.in-None.ensures.cases (lit< tt))) c.as_bytes-in-None.ensures.value c.alone.ensures.err
