-- The words that the program knows.
use Rattle.std.specs.Prelude.{◌≡◌, ℕ, List, [], ◌∷◌, codes, bytes_eq, Option, Some, None, if◌then◌else◌}
use Rattle.oci_schemas.specs.Kinds.{kind_of}
use Rattle.oci_bench.specs.declared.arguments.Task.{Task}
use Rattle.oci_bench.specs.declared.arguments.Task.TheVariants.{Typed, Schema, Texts}
use Rattle.oci_bench.specs.declared.documents.TypedCall.{TypedCall}
use Rattle.oci_bench.specs.declared.documents.TypedCall.TheVariants as typed
use Rattle.oci_bench.specs.declared.schemas.SchemaCall.{SchemaCall}
use Rattle.oci_bench.specs.declared.schemas.SchemaCall.TheVariants as schema
use Rattle.oci_bench.specs.declared.references.TextCall.{TextCall}
use Rattle.oci_bench.specs.declared.references.TextCall.TheVariants as text

-- the call on a typed record that a word names
abbrev pub typed_call_of : List ℕ → Option TypedCall
typed_call_of word =
    if bytes_eq word (codes "from_slice") then Some typed.Read
    else (if bytes_eq word (codes "to_value") then Some typed.Write
    else None)

-- the call by a schema that a word names
abbrev pub schema_call_of : List ℕ → Option SchemaCall
schema_call_of word =
    if bytes_eq word (codes "floor") then Some schema.Floor
    else (if bytes_eq word (codes "tape") then Some schema.Tape
    else (if bytes_eq word (codes "value") then Some schema.Value
    else (if bytes_eq word (codes "normalize") then Some schema.Normalize
    else (if bytes_eq word (codes "bytes") then Some schema.Bytes
    else (if bytes_eq word (codes "fresh") then Some schema.Fresh
    else None)))))

-- the call on a text that a word names
abbrev pub text_call_of : List ℕ → Option TextCall
text_call_of word =
    if bytes_eq word (codes "from_str") then Some text.Read
    else (if bytes_eq word (codes "parts") then Some text.Parts
    else (if bytes_eq word (codes "scanner") then Some text.Scanner
    else None))

-- the words name what is done: the kind, or texts, then the file and the call
abbrev pub Names : Task → List ℕ → List ℕ → List ℕ → Type 0
Names (Typed kind path run) first second call = (kind_of first ≡ Some kind) × (path.now ≡ second) × (typed_call_of call ≡ Some run.call)
Names (Schema kind path run) first second call = (kind_of first ≡ Some kind) × (path.now ≡ second) × (schema_call_of call ≡ Some run.call)
Names (Texts path run) first second call = (first ≡ codes "texts") × (path.now ≡ second) × (text_call_of call ≡ Some run.call)

-- so of four words, of which the third says how often
abbrev pub NamesWords : Task → List (List ℕ) → Type 0
NamesWords task (first ∷ second ∷ third ∷ call ∷ []) = Names task first second call
NamesWords task _ = ⊥
