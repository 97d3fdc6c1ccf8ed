-- What is known while the members of a record are taken out of an object.
use Rattle.std.specs.Prelude.{◌≡◌, ◌⊎◌, ℕ, List, Option, None, IsTrue}
use Rattle.serde_json.specs.Data.{Data, Members}
use Rattle.serde_json.specs.Find.{get, get_member}
use Rattle.oci_base.specs.Names.{is_listed}
use Rattle.oci_model.specs.Plain.{Slots}
use Rattle.oci_model.specs.Shape.{Rows}
use Rattle.oci_model.specs.Means.{MeansRows}

-- under each of these names the object has what the value has
abbrev pub Agree : List (List ℕ) → Members → Data → Type 0
Agree names ms d = (q : List ℕ) → IsTrue (is_listed names q) → get_member q ms ≡ get q d

-- the listed members mean nothing together
unfoldable pub AreRefused : Rows → Data → Type 0
AreRefused rs d = (xs : Slots) → ¬ MeansRows rs d xs

-- what stands under one of two names, where nothing stands under the other
abbrev pub OneOf : Option Data → Option Data → Option Data → Type 0
OneOf one found other = ((other ≡ None) × (one ≡ found)) ⊎ ((found ≡ None) × (one ≡ other))
