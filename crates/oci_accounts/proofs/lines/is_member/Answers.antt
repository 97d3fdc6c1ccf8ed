use Rattle.std.proofs.Common.{rules, tests}
use Rattle.std.specs.Prelude.{◌==◌, bytes_eq}
use Rattle.std.proofs.lemmas.Iterator.Search.{any_from_yields_List}
use Rattle.std.proofs.lemmas.Iterator.Splits.{YieldsList-from_slice_split}
use Rattle.oci_accounts.proofs.Fields.{member_told}
use Rattle.oci_accounts.proofs.lines.is_member.Goals as goal

pub returns-then-is_name : goal.returns-then-is_name
returns-then-is_name c =
    let named = c.if-is_name.ensures in
    member_told c.args.members.now c.args.name.now c.any.result
    (any_from_yields_List (bytes_eq c.args.name.now) _ _ c.any.result c.any.ensures.ran (YieldsList-from_slice_split _ (λ b. b == 44) c.args.members.now c.split.ensures.rest c.split.ensures.done c.split.ensures.closure (λ x b q k. search (rules, tests))) (λ x b q k. search (rules, tests)))
    (c.is_name.ensures.0 c.if-is_name.true)
