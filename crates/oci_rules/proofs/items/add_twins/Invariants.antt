use Rattle.std.proofs.Common.{◌≡◌, ◌++◌, drop, map}
use Rattle.std.specs.BTreeSet.{contains_text}
use Rattle.serde_json.specs.View.{items_view}
use Rattle.oci_schema.specs.Places.{pointer}
use Rattle.oci_rules.specs.Listed.{twins, no_text}
use Rattle.oci_rules.specs.Tables.{told, rule_of, key_of}
use Rattle.oci_rules.proofs.items.add_twins.Given as goal

-- what was found, and what is still to be found, is all
abbrev pub invariant-loop-index : goal.invariant-loop-index
invariant-loop-index l =
    map told l.found.items ++ twins (rule_of l.rule) (key_of l.key) (pointer l.at) l.index (contains_text l.before) (items_view (drop l.index l.items.items))
    ≡ map told l.initial.found.items ++ twins (rule_of l.rule) (key_of l.key) (pointer l.at) 0 no_text (items_view l.items.items)
