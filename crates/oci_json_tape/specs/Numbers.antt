-- The number that a `Number` is.
use Rattle.serde_json.specs.Data.{Num, unsigned, negative, float}
use Rattle.oci_json_tape.specs.declared.numeral.Number.{Number}
use Rattle.oci_json_tape.specs.declared.numeral.Number.TheVariants.{Unsigned, Negative, Float}

abbrev pub num_of : Number → Num
num_of (Unsigned n) = unsigned n
num_of (Negative z) = negative z
num_of (Float x) = float x
