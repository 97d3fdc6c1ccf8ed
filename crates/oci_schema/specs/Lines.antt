-- The line of a violation: its JSON pointer, escaped, since names of members are a stranger's, and what is expected there.
use Rattle.std.specs.Prelude.{ℕ, List, ◌++◌, codes}
use Rattle.std.specs.List.{flat_map}
use Rattle.oci_base.specs.Escaped.{escaped}
use Rattle.oci_schema.specs.Texts.{shape_text}
use Rattle.oci_schema.specs.Violations.{ValueKind, a_scalar, an_array, an_object, Expectation, a_value, a_member, no_alias, Report}

abbrev pub kind_text : ValueKind → List ℕ
kind_text (a_scalar s) = shape_text s
kind_text an_array = codes "an array"
kind_text an_object = codes "an object"

abbrev pub expectation_text : Expectation → List ℕ
expectation_text (a_value k) = kind_text k
expectation_text (a_member k) = codes "required member is missing (" ++ (kind_text k ++ codes ")")
expectation_text (no_alias alias) = codes "no member " ++ (alias ++ codes " beside it")

abbrev pub line : Report → List ℕ
line x = escaped x.0 ++ (codes ": " ++ expectation_text x.1)

-- one after the other, each with its end
abbrev pub lines : List Report → List ℕ
lines xs = flat_map (λ x. line x ++ codes "\n") xs
