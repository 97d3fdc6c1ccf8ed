-- What a call promises that reads a document and writes its normal form.
use Rattle.std.specs.Prelude.{ℕ, List, Option, Result, ◌⊎◌, IfErr, IfSome, OnOk}
use Rattle.std.specs.Io.KnownBytes.{Appends, Keeps}
use Rattle.oci_base.specs.Refused.{IsSchema, IsJson, IsMemorySerDeOrIo, IsIo}
use Rattle.oci_base.specs.declared.error.OciSpecError.{OciSpecError}
use Rattle.oci_model.specs.Plain.{Plain}
use Rattle.oci_model.specs.Shape.{Shape}
use Rattle.oci_model.specs.Value.{value}
use Rattle.oci_json.specs.Engines.{AppendsSome, KeepsUnlessIo, IsNotNormalized, IsNoJson, MeansBytes, IsPretty}

-- `Writes F`: the text of the document that the input decodes to is one of which F holds; `old` and `new` are what the writer
-- held before and holds after, where they are known
pub record Normalizes {A : Type 0} (Writes : (List ℕ → Type 0) → Type 0) (s : Shape) (input old new : Option (List ℕ)) (result : Result A OciSpecError) : Type 0 where
  -- after success the whole text was written
  pub ok : OnOk result (Writes (Appends old new))
  -- `SerDe(Json)`: the input is no JSON text
  pub json : IfErr result (λ e. IsJson e → IfSome input IsNoJson)
  -- `SerDe(Schema)`: the input is JSON and has no normal form
  pub schema : IfErr result (λ e. IsSchema e → IfSome input (IsNotNormalized s))
  -- `Io`: nothing was written, or a beginning of the text
  pub begun : IfErr result (λ e. IsIo e → Keeps old new ⊎ Writes (AppendsSome old new))
  -- any other error: nothing was written
  pub unwritten : IfErr result (KeepsUnlessIo old new)
  -- there are no other errors than these and `Memory`
  pub kind : IfErr result IsMemorySerDeOrIo

-- a pretty text of the document that the input decodes to, where the input is known
abbrev pub WritesPretty : Shape → Option (List ℕ) → (List ℕ → Type 0) → Type 0
WritesPretty s input Writes =
    (p : Plain) × IfSome input (λ bytes. MeansBytes s bytes p) × ((text : List ℕ) × IsPretty (value s p) text × Writes text)
