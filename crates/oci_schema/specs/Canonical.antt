-- The texts of normal forms.
use Rattle.std.specs.Prelude.{◌≡◌, ℕ, List, true, false, Option, Result, IfOk, IfErr, IfSome, Vec}
use Rattle.std.specs.declared.alloc.Global.{Global}
use Rattle.serde_json.specs.Data.{Data}
use Rattle.serde_json.specs.Written.{has_float, compact_text}
use Rattle.oci_base.specs.Refused.{IsSchema, IsJson}
use Rattle.oci_base.specs.declared.error.OciSpecError.{OciSpecError}
use Rattle.oci_json.specs.Readable.{IsReadable}
use Rattle.oci_json.specs.Engines.{MeansBytes, ReadsBack, IsPretty, IsNotNormalized, IsNoJson}
use Rattle.oci_model.specs.Plain.{Plain}
use Rattle.oci_model.specs.Shape.{Shape}
use Rattle.oci_model.specs.Value.{value}
use Rattle.oci_schema.specs.Normalized.{accepts, normalized}

-- the value is accepted, and the text is that of its normal form, which is one that a text may be read as
abbrev pub IsNormalText : Shape → Data → List ℕ → Type 0
IsNormalText s d text = (accepts s d ≡ true) × (text ≡ compact_text (normalized s d)) × IsReadable (normalized s d)

-- the value is accepted, and the text is a pretty one of its normal form, if that has no floats
abbrev pub IsNormalPretty : Shape → Data → List ℕ → Type 0
IsNormalPretty s d text = (accepts s d ≡ true) × (has_float (normalized s d) ≡ false → IsPretty (normalized s d) text)

-- the text is that of a document which the input decodes to, where that is known, and is read as the document's value again
abbrev pub IsDocumentText : Shape → Option (List ℕ) → List ℕ → Type 0
IsDocumentText s input text = (p : Plain) × IfSome input (λ bytes. MeansBytes s bytes p) × (text ≡ compact_text (value s p)) × ReadsBack (value s p)

-- the text is a pretty one of such a document
abbrev pub IsDocumentPretty : Shape → Option (List ℕ) → List ℕ → Type 0
IsDocumentPretty s input text = (p : Plain) × IfSome input (λ bytes. MeansBytes s bytes p) × IsPretty (value s p) text

-- What a call promises that makes a text of a document in the input.
pub record Makes (IsText : Option (List ℕ) → List ℕ → Type 0) (s : Shape) (input : Option (List ℕ)) (result : Result (Vec ℕ Global) OciSpecError) : Type 0 where
  -- after success
  pub ok : IfOk result (λ text. IsText input text.items)
  -- `SerDe(Json)`: the input is no JSON text
  pub json : IfErr result (λ e. IsJson e → IfSome input IsNoJson)
  -- `SerDe(Schema)`: the input is JSON and has no normal form
  pub schema : IfErr result (λ e. IsSchema e → IfSome input (IsNotNormalized s))

-- the compact text
abbrev pub MakesText : Shape → Option (List ℕ) → Result (Vec ℕ Global) OciSpecError → Type 0
MakesText s input result = Makes (IsDocumentText s) s input result

-- a pretty text
abbrev pub MakesPretty : Shape → Option (List ℕ) → Result (Vec ℕ Global) OciSpecError → Type 0
MakesPretty s input result = Makes (IsDocumentPretty s) s input result
