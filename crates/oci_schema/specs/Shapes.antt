-- The shape that a schema stands for.
use Rattle.std.specs.Prelude.{ℕ, zero, suc, List, [], ◌∷◌, map, Option, Some, None}
use Rattle.std.specs.Borrow.{Bor}
use Rattle.oci_text.specs.Capability.{capability_table}
use Rattle.oci_text.specs.Arch.{arches}
use Rattle.oci_text.specs.MediaType.{media_types}
use Rattle.oci_text.specs.Os.{oses}
use Rattle.oci_model.specs.Plain as plain
use Rattle.oci_model.specs.Plain.{Plain, Slot, empty, filled, slots}
use Rattle.oci_model.specs.Shape as shape
use Rattle.oci_model.specs.Shape.{Shape, Rows, no_rows, row}
use Rattle.oci_schema.specs.declared.presence.Scalar.{Scalar}
use Rattle.oci_schema.specs.declared.presence.Scalar.TheVariants as scalar
use Rattle.oci_schema.specs.declared.presence.DefaultValue.{DefaultValue}
use Rattle.oci_schema.specs.declared.presence.DefaultValue.TheVariants as default
use Rattle.oci_schema.specs.declared.presence.Presence.{Presence}
use Rattle.oci_schema.specs.declared.presence.Presence.TheVariants as presence
use Rattle.oci_schema.specs.declared.schema.Part.{Part}
use Rattle.oci_schema.specs.declared.schema.Part.TheVariants as part
use Rattle.oci_schema.specs.declared.schema.Schema.{Schema}
use Rattle.oci_schema.specs.declared.schema.Schema.TheVariants as schema
use Rattle.oci_schema.specs.declared.record.Member.{Member}

abbrev pub names_of : List (Bor (List ℕ)) → List (List ℕ)
names_of table = map (λ t. t.now) table

abbrev pub scalar_shape : Scalar → Shape
scalar_shape scalar.String = shape.text
scalar_shape scalar.Boolean = shape.truth
scalar_shape (scalar.Integer low high) = shape.whole low high
scalar_shape (scalar.Enum table) = shape.named (names_of table.now)
scalar_shape scalar.MediaType = shape.open_name media_types
scalar_shape scalar.Os = shape.open_name oses
scalar_shape scalar.Arch = shape.open_name arches
scalar_shape scalar.Digest = shape.digest_text
scalar_shape scalar.CpuList = shape.cpu_text
scalar_shape scalar.Capabilities = shape.cap_set capability_table
scalar_shape scalar.Keys = shape.key_set
scalar_shape scalar.Detail = shape.detail
scalar_shape scalar.FreeValues = shape.free_map

-- the content of an absent member
abbrev pub default_plain : DefaultValue → Plain
default_plain (default.String t) = plain.text t.now
default_plain (default.Boolean b) = plain.truth b
default_plain (default.Integer z) = plain.whole z
default_plain (default.Variant t) = plain.variant t.now
default_plain default.EmptyArray = plain.list plain.no_plains

abbrev pub default_slot : Option DefaultValue → Slot
default_slot None = empty
default_slot (Some x) = filled (default_plain x)

abbrev pub presence_of : Presence → shape.Presence
presence_of presence.Required = shape.required
presence_of presence.Optional = shape.optional
presence_of presence.Nullable = shape.nullable
presence_of presence.UnlessEmpty = shape.unless_empty
presence_of (presence.Defaulted x) = shape.defaulted (default_plain x)
presence_of (presence.DefaultedRecord xs) = shape.defaulted (plain.document (slots (map default_slot xs.now)))

abbrev pub alias_of : Option (Bor (List ℕ)) → Option (List ℕ)
alias_of None = None
alias_of (Some t) = Some t.now

-- ---- over a table that has at each place a record of the shape `f place`

abbrev pub part_shape : (ℕ → Shape) → Part → Shape
part_shape f (part.Scalar s) = scalar_shape s
part_shape f (part.Record place) = f place

abbrev pub schema_shape : (ℕ → Shape) → Schema → Shape
schema_shape f (schema.One p) = part_shape f p
schema_shape f (schema.List p) = shape.list (part_shape f p)
schema_shape f (schema.Map p) = shape.map (part_shape f p)

abbrev pub members_in : (ℕ → Shape) → List Member → Rows
members_in f [] = no_rows
members_in f (m ∷ ms) = row m.name.now (alias_of m.alias) (presence_of m.presence) (schema_shape f m.schema) (members_in f ms)

-- the shape at a place of a list; past its end that of a record with no members
abbrev pub shape_at : List Shape → ℕ → Shape
shape_at [] place = shape.rows no_rows
shape_at (s ∷ ss) zero = s
shape_at (s ∷ ss) (suc place) = shape_at ss place
