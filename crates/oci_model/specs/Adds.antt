-- What the writing of a member does to an object that is being written.
use Rattle.std.specs.Prelude.{◌≡◌, ◌⊎◌, ℕ, List, Option, Some, None}
use Rattle.serde_json.specs.View.{members_view}
use Rattle.serde_json.specs.Data.{Data}
use Rattle.oci_base.specs.Refused.{IsSchema, IsMemoryOrSchema}
use Rattle.oci_base.specs.declared.error.OciSpecError.{OciSpecError}
use Rattle.oci_model.specs.Plain.{Slot}
use Rattle.oci_model.specs.Shape.{Presence, Shape}
use Rattle.oci_model.specs.Fits.{Fits, FitsMember, IfFilled}
use Rattle.oci_model.specs.Value.{value, with_member, member_value}
use Rattle.oci_model.specs.Writable.{Writable}
use Rattle.oci_model.specs.declared.object_writer.ObjectWriter.{ObjectWriter}

-- without an error now there was none before, and the object has gained what stands under this name, if anything
abbrev pub Gains : ObjectWriter → ObjectWriter → List ℕ → Option Data → Type 0
Gains old new name d = (old.fault ≡ None) × (members_view new.members.entries ≡ with_member name d (members_view old.members.entries))

-- without an error the member is written, and it fits its shape and is serializable
abbrev pub Adds : ObjectWriter → ObjectWriter → List ℕ → Presence → Shape → Slot → Type 0
Adds old new name presence s x = (new.fault ≡ None)
    → Gains old new name (member_value presence (value s) x) × FitsMember presence (Fits s) x × IfFilled (Writable s) x

-- an error is the one before, or that of this member
abbrev pub FailsOf : ObjectWriter → ObjectWriter → Shape → Slot → Type 0
FailsOf old new s x = (e : OciSpecError) → (new.fault ≡ Some e)
    → (old.fault ≡ Some e) ⊎ (IsMemoryOrSchema e × (IsSchema e → ¬ IfFilled (Writable s) x))
