-- What a value of a shape is called where one is expected.
use Rattle.std.specs.Prelude.{ℕ, List, [], ◌∷◌, ◌++◌, codes}
use Rattle.std.specs.Fmt.{signed_decimal}
use Rattle.oci_model.specs.Shape as shape
use Rattle.oci_model.specs.Shape.{Shape, text, truth, whole, named, open_name, digest_text, cpu_text, cap_set, list, key_set, detail, free_map, rows}

-- the names, this text before the first and a comma before each other one
abbrev pub listed : List ℕ → List (List ℕ) → List ℕ
listed mark [] = []
listed mark (name ∷ names) = mark ++ (name ++ listed (codes ", ") names)

abbrev pub shape_text : Shape → List ℕ
shape_text text = codes "a string"
shape_text truth = codes "a boolean"
shape_text (whole low high) = codes "an integer from " ++ (signed_decimal low ++ (codes " to " ++ signed_decimal high))
shape_text (named table) = codes "one of the strings" ++ listed (codes " ") table
shape_text (open_name table) = codes "a string"
shape_text digest_text = codes "a digest"
shape_text cpu_text = codes "a CPU list as a string"
shape_text (cap_set table) = codes "an array of capability names"
shape_text (list s) = codes "an array"
shape_text (shape.map s) = codes "an object"
shape_text key_set = codes "an object of objects"
shape_text detail = codes "a value other than null whose numbers are 64-bit integers"
shape_text free_map = codes "an object whose numbers are 64-bit integers"
shape_text (rows rs) = codes "an object"
