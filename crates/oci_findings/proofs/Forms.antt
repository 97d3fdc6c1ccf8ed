-- What a tape of a document's bytes says of the document.
use Rattle.std.proofs.Common.{◌≡◌, List, ℕ, true, false, Option, Some, None, subst}
use Rattle.std.specs.Prelude.{IfSome, Vec}
use Rattle.std.specs.declared.alloc.Global.{Global}
use Rattle.json.specs.Token.{Token}
use Rattle.serde_json.specs.Data.{Data}
use Rattle.oci_json.specs.Engines.{ReadsAs}
use Rattle.oci_json_tape.specs.Elements.{BeginsWithData}
use Rattle.oci_model.specs.Shape.{Shape}
use Rattle.oci_model.specs.WellFormed.{WellFormed}
use Rattle.oci_schema.specs.Canonical.{IsNormalText, IsNormalPretty}
use Rattle.oci_schema.specs.Normalized.{accepts}
use Rattle.oci_schema.proofs.Documents.{accepted_document, document_text, document_pretty}
use Rattle.oci_schemas.specs.declared.kind.Kind.{Kind}
use Rattle.oci_schemas.specs.Kinds.{shape_of}
use Rattle.oci_findings.specs.Checks.{IsOfKind}
use Rattle.oci_findings.specs.Forms.{IsForm}

of_shape : (s : Shape) (bytes : List ℕ) (d : Data) (kind : Kind) → WellFormed s → s ≡ shape_of kind → ReadsAs bytes d → accepts s d ≡ true → IsOfKind kind bytes
of_shape s bytes d kind well is read accepted =
    let m = accepted_document (shape_of kind) bytes d (subst WellFormed is well) read (subst (λ t. accepts t d ≡ true) is accepted) in
    (m.0, m.1)

-- a document that is accepted
pub is_of_kind : (s : Shape) (kind : Kind) (bytes : List ℕ) (ts : List Token) → WellFormed s → s ≡ shape_of kind → ((d : Data) → BeginsWithData ts d → accepts s d ≡ true)
    → (d : Data) → ReadsAs bytes d → BeginsWithData ts d → IsOfKind kind bytes
is_of_kind s kind bytes ts well is accepted d read begins = of_shape s bytes d kind well is read (accepted d begins)

-- the text that was made of it, if one was
pub compact_found : (s : Shape) (kind : Kind) (bytes : List ℕ) (ts : List Token) (o : Option (Vec ℕ Global)) → WellFormed s → s ≡ shape_of kind
    → IfSome o (λ t. (d : Data) → BeginsWithData ts d → IsNormalText s d t.items) → IfSome o (λ t. (d : Data) → ReadsAs bytes d → BeginsWithData ts d → IsForm false kind bytes t.items)
compact_found s kind bytes ts None well is made = tt
compact_found s kind bytes ts (Some t) well is made = λ d read begins.
    document_text (shape_of kind) bytes d t.items (subst WellFormed is well) read (subst (λ x. IsNormalText x d t.items) is (made d begins))

pub pretty_found : (s : Shape) (kind : Kind) (bytes : List ℕ) (ts : List Token) (o : Option (Vec ℕ Global)) → WellFormed s → s ≡ shape_of kind
    → IfSome o (λ t. (d : Data) → BeginsWithData ts d → IsNormalPretty s d t.items) → IfSome o (λ t. (d : Data) → ReadsAs bytes d → BeginsWithData ts d → IsForm true kind bytes t.items)
pretty_found s kind bytes ts None well is made = tt
pretty_found s kind bytes ts (Some t) well is made = λ d read begins.
    document_pretty (shape_of kind) bytes d t.items (subst WellFormed is well) read (subst (λ x. IsNormalPretty x d t.items) is (made d begins))
