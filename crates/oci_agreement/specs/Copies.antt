-- Two objects with annotations.
use Rattle.std.specs.Prelude.{Option, option_map}
use Rattle.serde_json.specs.Data.{Data}
use Rattle.serde_json.specs.View.{view}
use Rattle.oci_agreement.specs.declared.annotations.Copies.{Copies}

-- what one lets expect
abbrev pub expected_of : Copies → Option Data
expected_of c = option_map (λ v. view v.now) c.expected

-- what the other has
abbrev pub found_of : Copies → Option Data
found_of c = option_map (λ v. view v.now) c.found
