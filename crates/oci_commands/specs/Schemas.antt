-- What `schema` writes.
use Rattle.std.specs.Prelude.{◌≡◌, ◌++◌, ◌∷◌, [], ℕ, List, Option}
use Rattle.std.specs.Io.KnownBytes.{Appends}
use Rattle.serde_json.specs.Data.{Data}
use Rattle.oci_json.specs.Engines.{IsPretty}
use Rattle.oci_schemas.specs.declared.kind.Kind.{Kind}
use Rattle.oci_commands.specs.declared.asked.Outline.{Outline}
use Rattle.oci_commands.specs.declared.asked.Outline.TheVariants.{Table, JsonSchema}
use Rattle.oci_commands.specs.Tables.{IsTableOf}

-- a table, or a JSON Schema
abbrev pub IsSchemaOf : Outline → Kind → List ℕ → Type 0
IsSchemaOf Table kind text = IsTableOf kind text
IsSchemaOf JsonSchema kind text = (d : Data) × (json : List ℕ) × IsPretty d json × (text ≡ json ++ 10 ∷ [])

abbrev pub WroteSchema : Outline → Kind → Option (List ℕ) → Option (List ℕ) → Type 0
WroteSchema outline kind old new = (text : List ℕ) × IsSchemaOf outline kind text × Appends old new text
