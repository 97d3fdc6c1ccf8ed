-- What is said of the places where two values differ.
use Rattle.std.specs.Prelude.{◌≡◌, ◌⊎◌, ℕ, List, None, string_bytes}
use Rattle.std.specs.List.{All}
use Rattle.serde_json.specs.Data.{Data, array, Items}
use Rattle.serde_json.specs.Find.{get}
use Rattle.serde_json.specs.View.{view}
use Rattle.oci_schema.specs.Leads.{LeadsTo}
use Rattle.oci_schema.specs.Places.{under_name, under_index}
use Rattle.oci_diff.specs.Best.{IsStepOf}
use Rattle.oci_diff.specs.Same.{AreSame}
use Rattle.oci_diff.specs.declared.aligned.Step.{Step}
use Rattle.oci_diff.specs.declared.aligned.Step.TheVariants.{First, Second}
use Rattle.oci_diff.specs.declared.changes.Change.{Change}
use Rattle.oci_diff.specs.declared.changes.Change.TheVariants.{Added, Removed, Changed}
use Rattle.oci_diff.specs.declared.changes.Difference.{Difference}

-- the place is that of a member that a part of the value has not
abbrev pub LacksMember : Data → List ℕ → Type 0
LacksMember d place = (holder : List ℕ) × (name : List ℕ) × (part : Data) × (under_name holder name ≡ place) × LeadsTo d holder part × (get name part ≡ None)

-- the place is that of an item of two arrays, at one place of the two values, that are not the same, and an alignment of them has it alone
abbrev pub IsAlone : (ℕ → Step) → Data → Data → List ℕ → Type 0
IsAlone alone before after place =
    (holder : List ℕ) × (i : ℕ) × (ds : Items) × (es : Items) × (under_index holder i ≡ place)
    × LeadsTo before holder (array ds) × LeadsTo after holder (array es) × (AreSame (array ds) (array es) → ⊥) × IsStepOf ds es (alone i)

-- what is said of a place is so
abbrev pub HoldsAt : Data → Data → List ℕ → Change → Type 0
HoldsAt before after place (Added value) = LeadsTo after place (view value.now) × (LacksMember before place ⊎ IsAlone Second before after place)
HoldsAt before after place (Removed value) = LeadsTo before place (view value.now) × (LacksMember after place ⊎ IsAlone First before after place)
HoldsAt before after place (Changed old new) =
    LeadsTo before place (view old.now) × LeadsTo after place (view new.now) × (AreSame (view old.now) (view new.now) → ⊥)

abbrev pub IsSo : Data → Data → Difference → Type 0
IsSo before after x = HoldsAt before after (string_bytes x.pointer) x.change

-- ---- for what is added to a list of differences

-- the one value is at this place of a first value, and the other at this place of a second
abbrev pub StandAt : Data → Data → List ℕ → Data → Data → Type 0
StandAt d e place before after = LeadsTo before place d × LeadsTo after place e

-- what was added is so, of any two values of which this holds
abbrev pub AddsIf : (Data → Data → Type 0) → List Difference → List Difference → Type 0
AddsIf Holds old new = (before after : Data) → Holds before after → All (IsSo before after) old → All (IsSo before after) new
