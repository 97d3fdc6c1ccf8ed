-- The kinds of documents, by their numbers.
use Rattle.std.specs.Prelude.{ℕ, ◌==◌, Option, Some, None, option_map, if◌then◌else◌}
use Rattle.oci_model.specs.Shape.{Shape}
use Rattle.oci_schemas.specs.Kinds as kinds
use Rattle.oci_schemas.specs.declared.kind.Kind.{Kind}
use Rattle.oci_schemas.specs.declared.kind.Kind.TheVariants.{Manifest, Index, Config, Artifact, Layout, Descriptor, Error, Repositories, Tags, Reference, Spec, State, ProcessState, Features}
use Rattle.oci_schema.specs.Shapes.{schema_shape, shape_at}
use Rattle.oci_schema.specs.declared.schema.Schema.{Schema}
use Rattle.oci_schemas.specs.Table.{shapes}

-- the JSON that a schema over the table of all records allows
abbrev pub shape_of : Schema → Shape
shape_of s = schema_shape (shape_at shapes) s

-- the kind with a number
abbrev pub kind_numbered : ℕ → Option Kind
kind_numbered kind =
    if kind == 0 then Some Manifest
    else (if kind == 1 then Some Index
    else (if kind == 2 then Some Config
    else (if kind == 3 then Some Artifact
    else (if kind == 4 then Some Layout
    else (if kind == 5 then Some Descriptor
    else (if kind == 6 then Some Error
    else (if kind == 7 then Some Repositories
    else (if kind == 8 then Some Tags
    else (if kind == 9 then Some Reference
    else (if kind == 10 then Some Spec
    else (if kind == 11 then Some State
    else (if kind == 12 then Some ProcessState
    else (if kind == 13 then Some Features
    else None)))))))))))))

-- the JSON that is allowed for the kind with a number
abbrev pub shape_numbered : ℕ → Option Shape
shape_numbered kind = option_map kinds.shape_of (kind_numbered kind)
