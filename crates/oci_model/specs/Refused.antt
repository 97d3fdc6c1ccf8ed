-- JSON that is not allowed.
use Rattle.std.specs.Prelude.{Option}
use Rattle.serde_json.specs.Data.{Data}
use Rattle.oci_model.specs.Plain.{Plain, Slot}
use Rattle.oci_model.specs.Shape.{Presence, Shape}
use Rattle.oci_model.specs.Means.{Means, MeansEither}

-- it means nothing
unfoldable pub IsRefused : Shape → Data → Type 0
IsRefused s d = (p : Plain) → ¬ Means s d p

-- what stands under a member's names means nothing there
unfoldable pub IsMemberRefused : Presence → Shape → Option Data → Option Data → Type 0
IsMemberRefused presence s found second = (x : Slot) → ¬ MeansEither presence (Means s) found second x
