-- The first colon of a digest is the one behind its algorithm.
use Rattle.std.proofs.Common.{length, ap, lit<}
use Rattle.std.specs.Prelude.{None, Some}
use Rattle.std.proofs.lemmas.Str.Pattern.{split_after}
use Rattle.oci_base.specs.Classes.{until, after, colon}
use Rattle.oci_base.proofs.Lacks.{lacks_at}
use Rattle.oci_text.proofs.Algorithm.{no_colon}
use Rattle.oci_text.proofs.digest.algorithm_len.Goals as goal

pub returns-in-None-clause-value : goal.returns-in-None-clause-value
returns-in-None-clause-value c =
    let t = c.args.text.now in
    absurd (split_after colon t (until colon t) (after colon t) None c.in-None.ensures.cases (lit< tt) c.requires.spelled
    (lacks_at colon (until colon t) (no_colon (until colon t) c.requires.is_algorithm)))

pub returns-in-Some-clause-value : goal.returns-in-Some-clause-value
returns-in-Some-clause-value c =
    let t = c.args.text.now in
    let cut = split_after colon t (until colon t) (after colon t) (Some (c.in-Some.algorithm, c.in-Some.field-0-1)) c.in-Some.ensures.cases (lit< tt) c.requires.spelled
    (lacks_at colon (until colon t) (no_colon (until colon t) c.requires.is_algorithm)) in
    ap length cut.0
