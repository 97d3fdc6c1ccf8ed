use Rattle.std.proofs.Common.{◌≡◌, option_map}
use Rattle.toml.specs.View.{view, members_view, table_view}
use Rattle.oci_rules.specs.Tables.{texts_of}
use Rattle.oci_policies.specs.Values.{others}
use Rattle.oci_policies.proofs.Lists.{in_front}
use Rattle.oci_policies.proofs.values.sole_other.Given as goal

-- what was found, and what is still to be found, is all
abbrev pub invariant-loop-name : goal.invariant-loop-name
invariant-loop-name l =
    in_front (option_map (λ m. (m.0.now, view m.1.now)) l.sole) (others (texts_of l.names) (members_view l.name-iterator))
    ≡ others (texts_of l.names) (table_view l.table)
