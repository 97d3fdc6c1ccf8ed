-- What a schema expects, in words.
use Rattle.std.specs.Prelude.{ℕ, Bool, true, false, List, [], ◌∷◌, ◌++◌, codes, map}
use Rattle.std.specs.Fmt.{signed_decimal}
use Rattle.oci_schema.specs.declared.presence.Scalar.{Scalar}
use Rattle.oci_schema.specs.declared.presence.Scalar.TheVariants as scalar
use Rattle.oci_schema.specs.declared.violation.ExpectedKind.{ExpectedKind}
use Rattle.oci_schema.specs.declared.violation.ExpectedKind.TheVariants as kind
use Rattle.oci_schema.specs.declared.violation.Expected.{Expected}
use Rattle.oci_schema.specs.declared.violation.Expected.TheVariants as expected

-- what is before the first name, and before another one
abbrev pub mark_text : Bool → List ℕ
mark_text true = codes " "
mark_text false = codes ", "

-- each name behind a mark; the first has another mark than the others
abbrev pub marked : List ℕ → List (List ℕ) → List ℕ
marked mark [] = []
marked mark (name ∷ names) = mark ++ name ++ marked (codes ", ") names

-- what a scalar may be
abbrev pub scalar_words : Scalar → List ℕ
scalar_words scalar.String = codes "a string"
scalar_words scalar.Boolean = codes "a boolean"
scalar_words (scalar.Integer low high) = codes "an integer from " ++ (signed_decimal low ++ (codes " to " ++ signed_decimal high))
scalar_words (scalar.Enum names) = codes "one of the strings" ++ marked (codes " ") (map (λ name. name.now) names.now)
scalar_words scalar.MediaType = codes "a string"
scalar_words scalar.Os = codes "a string"
scalar_words scalar.Arch = codes "a string"
scalar_words scalar.Digest = codes "a digest"
scalar_words scalar.CpuList = codes "a CPU list as a string"
scalar_words scalar.Capabilities = codes "an array of capability names"
scalar_words scalar.Keys = codes "an object of objects"
scalar_words scalar.Detail = codes "a value other than null whose numbers are 64-bit integers"
scalar_words scalar.FreeValues = codes "an object whose numbers are 64-bit integers"

-- what a value of a kind is
abbrev pub kind_words : ExpectedKind → List ℕ
kind_words (kind.Scalar s) = scalar_words s
kind_words kind.Array = codes "an array"
kind_words kind.Object = codes "an object"

-- what is expected at a place
abbrev pub expected_words : Expected → List ℕ
expected_words (expected.Value k) = codes "expected " ++ kind_words k
expected_words (expected.Member k) = codes "required member is missing (" ++ (kind_words k ++ codes ")")
expected_words (expected.NoAlias alias) = codes "expected no member " ++ (alias.now ++ codes " beside it")
