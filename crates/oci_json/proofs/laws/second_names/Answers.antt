use Rattle.std.proofs.Common.{refl}
use Rattle.serde_json.specs.Data.{Data}
use Rattle.oci_model.specs.Plain.{Slots, no_slots, slot}
use Rattle.oci_model.specs.Shape.{Shape, rows}
use Rattle.oci_model.specs.Means.{MeansRows}
use Rattle.oci_json.specs.Examples.{system, twice_named}
use Rattle.oci_json.proofs.laws.second_names.Goals as goal

pub returns-clause-by_name : goal.returns-clause-by_name
returns-clause-by_name c = (_, refl, refl, ((_, refl, refl), ((_, refl, refl), tt)))

pub returns-clause-by_second : goal.returns-clause-by_second
returns-clause-by_second c = (_, refl, refl, ((_, refl, refl), ((_, refl, refl), tt)))

-- what the listed members of a record mean
abbrev MeansMembers : Shape → Data → Slots → Type 0
MeansMembers (rows rs) d xs = MeansRows rs d xs
MeansMembers _ d xs = ⊥

-- nothing is meant at the second member
nothing : (xs : Slots) → MeansMembers system twice_named xs → ⊥
nothing no_slots h = h
nothing (slot a no_slots) h = h.1
nothing (slot a (slot b xs)) h = h.1.0

pub returns-clause-both : goal.returns-clause-both
returns-clause-both c p m = nothing m.0 m.3
