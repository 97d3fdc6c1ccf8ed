-- What `schema` writes for people: the members of a kind of documents, and of each record that they name.
use Rattle.std.specs.Prelude.{◌≡◌, ◌++◌, ◌∷◌, [], ℕ, ◌^◌, ◌-◌, List, Bool, true, false, Option, Some, None, codes, nat_eq, if◌then◌else◌}
use Rattle.std.specs.List.{AllZip, flat_map, list_any}
use Rattle.std.specs.Borrow.{Bor}
use Rattle.std.specs.Fmt.{format_spec, padded, signed_decimal}
use Rattle.oci_model.specs.Shape.{Shape, rows}
use Rattle.oci_schema.specs.Shapes.{members_in, schema_shape, shape_at}
use Rattle.oci_schema.specs.declared.presence.DefaultValue.{DefaultValue}
use Rattle.oci_schema.specs.declared.presence.DefaultValue.TheVariants as default
use Rattle.oci_schema.specs.declared.presence.Presence.{Presence}
use Rattle.oci_schema.specs.declared.presence.Presence.TheVariants as presence
use Rattle.oci_schema.specs.declared.schema.Part.{Part}
use Rattle.oci_schema.specs.declared.schema.Part.TheVariants as part
use Rattle.oci_schema.specs.declared.schema.Schema.{Schema}
use Rattle.oci_schema.specs.declared.schema.Schema.TheVariants as schema
use Rattle.oci_schema.specs.declared.record.Member.{Member}
use Rattle.oci_schema.specs.declared.record.Record.{Record}
use Rattle.oci_schemas.specs.Kinds.{shape_of}
use Rattle.oci_schemas.specs.Table.{shapes}
use Rattle.oci_schemas.specs.declared.kind.Kind.{Kind}
use Rattle.oci_findings.specs.Wording.{scalar_words}
use Rattle.oci_commands.specs.Texts.{Joins}

-- ---- the records of a schema, over a table with the shape `f place` at each place

-- the record stands at this place of the table
abbrev pub IsRecordAt : (ℕ → Shape) → ℕ → Record → Type 0
IsRecordAt f place r = f place ≡ rows (members_in f r.members.now)

-- the places of the records that are named
abbrev pub place_in : Part → List ℕ
place_in (part.Scalar s) = []
place_in (part.Record place) = place ∷ []

abbrev pub places_in : Schema → List ℕ
places_in (schema.One p) = place_in p
places_in (schema.List p) = place_in p
places_in (schema.Map p) = place_in p

abbrev pub places_of : List Member → List ℕ
places_of = flat_map (λ m. places_in m.schema)

-- the places behind others, each once
abbrev pub with_place : ℕ → List ℕ → List ℕ
with_place place places = if list_any (nat_eq place) places then places else places ++ place ∷ []

abbrev pub each_place : List ℕ → List ℕ → List ℕ
each_place before [] = before
each_place before (p ∷ ps) = each_place (with_place p before) ps

-- the records that a schema names, and those that their members name, each once and in the order in which they are named
abbrev pub AreRecordsOf : (ℕ → Shape) → Schema → List Record → Type 0
AreRecordsOf f s records =
    (places : List ℕ) × AllZip (IsRecordAt f) places records × (places ≡ each_place [] (places_in s ++ flat_map (λ r. places_of r.members.now) records))

-- ---- what is written of a member

-- a record is written as its name
abbrev pub IsPartText : (ℕ → Shape) → Part → List ℕ → Type 0
IsPartText f (part.Scalar s) text = text ≡ scalar_words s
IsPartText f (part.Record place) text = (r : Record) × IsRecordAt f place r × (text ≡ r.name.now)

abbrev pub IsBehind : List ℕ → (List ℕ → Type 0) → List ℕ → Type 0
IsBehind begin Is text = (rest : List ℕ) × Is rest × (text ≡ begin ++ rest)

abbrev pub IsSchemaText : (ℕ → Shape) → Schema → List ℕ → Type 0
IsSchemaText f (schema.One p) = IsPartText f p
IsSchemaText f (schema.List p) = IsBehind (codes "an array, of each item: ") (IsPartText f p)
IsSchemaText f (schema.Map p) = IsBehind (codes "an object, of each member: ") (IsPartText f p)

abbrev pub default_text : DefaultValue → List ℕ
default_text (default.String t) = codes "\"" ++ (t.now ++ codes "\"")
default_text (default.Variant t) = codes "\"" ++ (t.now ++ codes "\"")
default_text (default.Boolean true) = codes "true"
default_text (default.Boolean false) = codes "false"
default_text (default.Integer z) = signed_decimal z
default_text default.EmptyArray = codes "[]"

abbrev pub presence_text : Presence → List ℕ
presence_text presence.Required = codes "required  "
presence_text presence.Optional = codes "optional  "
presence_text presence.Nullable = codes "optional  "
presence_text presence.UnlessEmpty = codes "optional  "
presence_text (presence.Defaulted x) = codes "default " ++ (default_text x ++ codes ", ")
presence_text (presence.DefaultedRecord xs) = codes "default   "

abbrev pub alias_text : Option (Bor (List ℕ)) → List ℕ
alias_text None = []
alias_text (Some t) = codes ", also read as " ++ t.now

-- a text with spaces behind it, 26 characters at least
abbrev pub column : List ℕ → List ℕ
column = padded (format_spec 32 1 0 26 (2 ^ 64 - 1))

-- the line of a member: its name, whether it is required, what its value may be, and its alias
abbrev pub IsMemberLine : (ℕ → Shape) → Member → List ℕ → Type 0
IsMemberLine f m line =
    (what : List ℕ) × IsSchemaText f m.schema what
    × (line ≡ codes "  " ++ (column m.name.now ++ (codes " " ++ (presence_text m.presence ++ (what ++ (alias_text m.alias ++ 10 ∷ []))))))

-- ---- the table

-- an empty line, the name of a record, and a line for each member
abbrev pub IsRecordText : (ℕ → Shape) → Record → List ℕ → Type 0
IsRecordText f r text = (lines : List ℕ) × Joins (IsMemberLine f) r.members.now lines × (text ≡ 10 ∷ r.name.now ++ 10 ∷ lines)

-- a title, and the records
abbrev pub IsTable : (ℕ → Shape) → Schema → List ℕ → Type 0
IsTable f s text =
    (title : List ℕ) × (records : List Record) × (lines : List ℕ) × AreRecordsOf f s records × Joins (IsRecordText f) records lines × (text ≡ title ++ 10 ∷ lines)

-- that of a kind of documents, by a schema of its shape
abbrev pub IsTableOf : Kind → List ℕ → Type 0
IsTableOf kind text = (s : Schema) × (schema_shape (shape_at shapes) s ≡ shape_of kind) × IsTable (shape_at shapes) s text
