-- What the refusal for a document that was not written says.
use Rattle.std.proofs.Common.{List, ℕ, Option, Some, None, inl, refl}
use Rattle.std.specs.Prelude.{IfSome}
use Rattle.std.specs.Io.KnownBytes.{Keeps}
use Rattle.oci_base.specs.Refused.{IsJson, IsSchema, IsMemorySerDeOrIo}
use Rattle.oci_base.specs.declared.error.OciSpecError.{OciSpecError}
use Rattle.oci_base.specs.declared.error.OciSpecError.TheVariants.{Other, Io, SerDe, Builder, Memory}
use Rattle.oci_base.specs.declared.error.SerDeError.TheVariants.{Json, Schema}
use Rattle.oci_shapes.specs.Descriptor.{descriptor}
use Rattle.oci_json.specs.Engines.{IsNoJson, IsNoDocument}
use Rattle.oci_doc_run.specs.Refusals.{refusal_of, TellsOfPin}

-- what nobody wrote to is as it was
pub keeps_itself : (w : Option (List ℕ)) → Keeps w w
keeps_itself None = tt
keeps_itself (Some xs) = refl

-- the refusal for the error that stood in the way of reading a descriptor
pub pin_refused : (text : List ℕ) (input old new : Option (List ℕ)) (e : OciSpecError) → (IsJson e → IfSome input IsNoJson) → (IsSchema e → IfSome input (IsNoDocument descriptor))
    → IsMemorySerDeOrIo e → Keeps old new → TellsOfPin text input old new (refusal_of e)
pin_refused text input old new (Other t) json schema kind kept = absurd kind
pin_refused text input old new (Io f) json schema kind kept = (tt, inl kept)
pin_refused text input old new (SerDe (Json f)) json schema kind kept = (json tt, kept)
pin_refused text input old new (SerDe (Schema f)) json schema kind kept = (schema tt, kept)
pin_refused text input old new (Builder f) json schema kind kept = absurd kind
pin_refused text input old new Memory json schema kind kept = (tt, kept)
