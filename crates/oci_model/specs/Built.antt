-- What a builder answers where a field that has to be set is not.
use Rattle.std.specs.Prelude.{◌≡◌, ℕ, List, [], ◌∷◌, Bool, Option, Some, None, if◌then◌else◌}
use Rattle.oci_base.specs.declared.error.OciSpecError.{OciSpecError}
use Rattle.oci_base.specs.declared.error.OciSpecError.TheVariants.{Builder}

-- the first name whose field is unset
abbrev pub first_unset : List (List ℕ × Bool) → Option (List ℕ)
first_unset [] = None
first_unset (e ∷ es) = if e.1 then Some e.0 else first_unset es

-- the error names this field
abbrev pub Names : OciSpecError → List ℕ → Type 0
Names (Builder e) name = e.field.now ≡ name
Names _ name = ⊥

-- the error names the field that is not set
abbrev pub IsUnset : Option (List ℕ) → OciSpecError → Type 0
IsUnset None e = ⊥
IsUnset (Some name) e = Names e name
