-- The test of references that say their registry.
use Rattle.std.specs.Prelude.{ℕ, Bool, false, List, take, Option, Some, None}
use Rattle.std.specs.List.{fold}
use Rattle.oci_reference.specs.Scanner.{start, step, found}
use Rattle.oci_reference.specs.declared.scanner.places.Places.{Places}
use Rattle.oci_grammars.specs.Decided.{is_qualified}

abbrev pub full_by : List ℕ → Option Places → Bool
full_by text None = false
full_by text (Some places) = is_qualified (take places.name text)

abbrev pub is_full_text : List ℕ → Bool
is_full_text text = full_by text (found (fold step start text))
