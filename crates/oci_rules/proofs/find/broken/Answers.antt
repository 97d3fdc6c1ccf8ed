use Rattle.std.proofs.Common.{◌++◌, map, ap, ◌∙◌}
use Rattle.serde_json.specs.View.{view}
use Rattle.oci_rules.specs.Tables.{told, rule_of, platform_of}
use Rattle.oci_rules.specs.Listed.{all_broken}
use Rattle.oci_rules.proofs.Breaking.{exactly, none_broken}
use Rattle.oci_rules.proofs.find.broken.Goals as goal

pub returns-clause-listed : goal.returns-clause-listed
returns-clause-listed c =
    exactly (map rule_of c.args.rules.now) (platform_of c.args.platform) (view c.args.value.now) c.add_rules.new.found.items
    (c.in_ok-add_rules.ensures ∙ ap (λ vs. map told vs ++ all_broken (map rule_of c.args.rules.now) (platform_of c.args.platform) (view c.args.value.now)) c.new-found.ensures.items)

pub returns-clause-none : goal.returns-clause-none
returns-clause-none c =
    none_broken (map rule_of c.args.rules.now) (platform_of c.args.platform) (view c.args.value.now) c.add_rules.new.found.items
    (c.in_ok-add_rules.ensures ∙ ap (λ vs. map told vs ++ all_broken (map rule_of c.args.rules.now) (platform_of c.args.platform) (view c.args.value.now)) c.new-found.ensures.items)
