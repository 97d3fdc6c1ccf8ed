use Rattle.std.proofs.Common.{lit<}
use Rattle.std.specs.Prelude.{Some}
use Rattle.std.proofs.lemmas.Str.Pattern.{split_parts}
use Rattle.oci_content.proofs.Named.{is_by, not_by}
use Rattle.oci_content.proofs.algorithm.Algorithm.of_digest.Goals as goal

pub returns-clause-some : goal.returns-clause-some
returns-clause-some c =
    is_by c.args.digest.now c.in_ok-name.name.now c.in_ok-name.field-0-1.now c.from_name.result
    (split_parts 58 c.args.digest.now (Some (c.in_ok-name.name, c.in_ok-name.field-0-1)) c.in_ok-name.ensures.cases (lit< tt)).0 c.from_name.ensures.some

pub returns-clause-none : goal.returns-clause-none
returns-clause-none c = not_by c.args.digest.now c.in_ok-name.name c.in_ok-name.field-0-1 c.from_name.result c.in_ok-name.ensures.cases c.from_name.ensures.none
