-- What a container may use of its host by default (runtime specification, "Linux Container Configuration", "Control groups").
use Rattle.std.specs.Prelude.{[], ◌∷◌}
use Rattle.oci_model.specs.Plain as plain
use Rattle.oci_model.specs.Plain.{Plain, document, slots, empty, filled, no_plains}

-- an empty list of rules for devices, and nothing else
abbrev pub default_resources : Plain
default_resources = document (slots (
    filled (plain.list no_plains)
    ∷ empty
    ∷ empty
    ∷ empty
    ∷ empty
    ∷ empty
    ∷ empty
    ∷ empty
    ∷ empty
    ∷ []))
