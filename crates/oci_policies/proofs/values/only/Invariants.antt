use Rattle.std.proofs.Common.{◌≡◌}
use Rattle.toml.specs.View.{members_view, table_view}
use Rattle.oci_rules.specs.Tables.{texts_of}
use Rattle.oci_policies.specs.Values.{has_only}
use Rattle.oci_policies.proofs.values.only.Given as goal

abbrev pub invariant-loop-name : goal.invariant-loop-name
invariant-loop-name l = has_only (texts_of l.names) (table_view l.table) ≡ has_only (texts_of l.names) (members_view l.name-iterator)
