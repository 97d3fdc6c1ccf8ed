-- What is listed of the members that a canonical form lacks.
use Rattle.std.specs.Prelude.{◌≡◌, ◌++◌, ℕ, List, string_bytes}
use Rattle.std.specs.List.{All}
use Rattle.oci_schema.specs.Places.{pointer}
use Rattle.oci_schema.specs.declared.place.Place.{Place}
use Rattle.oci_findings.specs.declared.left_out.LeftOut.{LeftOut}

-- it is at the pointer, or below it
abbrev pub IsUnder : List ℕ → LeftOut → Type 0
IsUnder at l = (below : List ℕ) × (string_bytes l.pointer ≡ at ++ below)

-- such members were added to what was listed
abbrev pub AddsUnder : List ℕ → List LeftOut → List LeftOut → Type 0
AddsUnder at old new = (more : List LeftOut) × (new ≡ old ++ more) × All (IsUnder at) more

-- the same of a place
abbrev pub Adds : Place → List LeftOut → List LeftOut → Type 0
Adds at old new = AddsUnder (pointer at) old new
