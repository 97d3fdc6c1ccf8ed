use Rattle.std.proofs.Common.{◌≡◌, drop}
use Rattle.std.specs.List.{list_any}
use Rattle.serde_json.specs.View.{view}
use Rattle.oci_rules.specs.Decided.{has}
use Rattle.oci_rules.specs.Tables.{texts_of}
use Rattle.oci_rules.proofs.passes.has_one.Given as goal

abbrev pub invariant-loop-name : goal.invariant-loop-name
invariant-loop-name l = list_any (has (view l.value)) (texts_of l.names) ≡ list_any (has (view l.value)) (texts_of (drop l.name-index l.names))
