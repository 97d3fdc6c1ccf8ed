use Rattle.std.proofs.Common.{◌≡◌, ◌++◌, drop, map}
use Rattle.std.specs.BTreeSet.{contains_text}
use Rattle.serde_json.specs.View.{items_view}
use Rattle.oci_schema.specs.Places.{pointer}
use Rattle.oci_rules.specs.Listed.{others}
use Rattle.oci_rules.specs.Tables.{told, rule_of}
use Rattle.oci_rules.proofs.items.add_others.Given as goal

-- what was found, and what is still to be found, is all
abbrev pub invariant-loop-index : goal.invariant-loop-index
invariant-loop-index l =
    map told l.found.items ++ others (rule_of l.rule) (contains_text l.known) (pointer l.at) l.index (items_view (drop l.index l.items.items))
    ≡ map told l.initial.found.items ++ others (rule_of l.rule) (contains_text l.known) (pointer l.at) 0 (items_view l.items.items)
