use Rattle.std.proofs.Common.{◌≡◌, drop}
use Rattle.std.specs.List.{list_all}
use Rattle.serde_json.specs.View.{view}
use Rattle.oci_rules.specs.Decided.{is_set}
use Rattle.oci_rules.specs.Tables.{texts_of}
use Rattle.oci_rules.proofs.conditions.has_all.Given as goal

abbrev pub invariant-loop-name : goal.invariant-loop-name
invariant-loop-name l = list_all (is_set (view l.value)) (texts_of l.names) ≡ list_all (is_set (view l.value)) (texts_of (drop l.name-index l.names))
