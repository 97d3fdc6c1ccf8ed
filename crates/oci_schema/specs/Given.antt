-- The value of a member as it is found, and as it is written.
use Rattle.std.specs.Prelude.{Bool, true, false, Option, Some, option_and_then}
use Rattle.serde_json.specs.Data.{Data}
use Rattle.oci_model.specs.Means.{unless_null}
use Rattle.oci_model.specs.Shape.{Presence, required, defaulted, optional, nullable, unless_empty}
use Rattle.oci_schema.specs.Normalized.{unless_no_items}

-- whether null counts as absent
abbrev pub may_be_null : Presence → Bool
may_be_null required = false
may_be_null (defaulted p) = false
may_be_null optional = true
may_be_null nullable = true
may_be_null unless_empty = true

abbrev pub unless_null_counts : Bool → Option Data → Option Data
unless_null_counts true found = option_and_then unless_null found
unless_null_counts false found = found

-- the found value; none if it is null and null counts as absent
abbrev pub given : Presence → Option Data → Option Data
given p found = unless_null_counts (may_be_null p) found

-- what is written for a member with this normal form
abbrev pub written : Presence → Data → Option Data
written required d = Some d
written (defaulted p) d = Some d
written optional d = Some d
written nullable d = Some d
written unless_empty d = unless_no_items d
