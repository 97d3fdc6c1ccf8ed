-- The names of the kinds of documents.
use Rattle.std.specs.Prelude.{ℕ, List, codes, bytes_eq, Option, Some, if◌then◌else◌}
use Rattle.oci_schemas.specs.declared.kind.Kind.{Kind}
use Rattle.oci_schemas.specs.declared.kind.Kind.TheVariants.{Config, Spec}
use Rattle.oci_schemas.specs.Kinds.{kind_of}

-- the kind of a name: a word of `ocidoc`, or another name of two of them
abbrev pub kind_named : List ℕ → Option Kind
kind_named name =
    if bytes_eq name (codes "image-config") then Some Config
    else (if bytes_eq name (codes "runtime-config") then Some Spec
    else kind_of name)
