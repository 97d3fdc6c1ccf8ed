use Rattle.std.proofs.Common.{◌≡◌, [], length, map, ap, ◌∙◌, subst, rules}
use Rattle.std.specs.Prelude.{◌↔◌}
use Rattle.serde_json.specs.View.{view}
use Rattle.oci_rules.specs.Breaks.{KeepsAll}
use Rattle.oci_rules.specs.Tables.{platform_of, rule_of}
use Rattle.oci_ffi.proofs.Chosen.{none_listed}
use Rattle.oci_ffi.proofs.rules.found_in.Goals as goal

pub returns-clause-none : goal.returns-clause-none
returns-clause-none c =
    let found = c.in_ok-found.found.items in
    let same = ap (map rule_of) c.as_slice.ensures.value ∙ c.in_ok-rules.ensures in
    let none = subst (λ rs. (found ≡ []) ↔ KeepsAll rs (platform_of c.args.platform) (view c.args.value.now)) same c.in_ok-found.ensures.none in
    let counted : c.len-count.result ≡ length found = search rules in
    none_listed (KeepsAll _ (platform_of c.args.platform) (view c.args.value.now)) found _ counted none
