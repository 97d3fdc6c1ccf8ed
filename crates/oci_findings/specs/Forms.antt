-- The canonical form of a document.
use Rattle.std.specs.Prelude.{ℕ, List, Bool, true, false, Some}
use Rattle.oci_schema.specs.Canonical.{IsDocumentText, IsDocumentPretty}
use Rattle.oci_schemas.specs.declared.kind.Kind.{Kind}
use Rattle.oci_schemas.specs.Kinds.{shape_of}

-- the text is the canonical form of the document of this kind in the bytes, indented or compact
abbrev pub IsForm : Bool → Kind → List ℕ → List ℕ → Type 0
IsForm true kind bytes text = IsDocumentPretty (shape_of kind) (Some bytes) text
IsForm false kind bytes text = IsDocumentText (shape_of kind) (Some bytes) text
