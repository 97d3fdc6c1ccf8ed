-- Values that are no details.
use Rattle.std.proofs.Common.{◌≡◌, is_some, Bool, true, refl, ◌∙◌, sym, true≢false}
use Rattle.serde_json.specs.Data.{Data, null, boolean, number, string, array, object}
use Rattle.serde_json.specs.Written.{has_float}
use Rattle.serde_json.specs.Find.{as_null}
use Rattle.oci_model.specs.Shape.{detail}
use Rattle.oci_model.specs.Refused.{IsRefused}

-- null
pub of_null : (d : Data) (b : Bool) → b ≡ is_some (as_null d) → b ≡ true → IsRefused detail d
unfolding IsRefused
of_null null b told is p m = m.0 refl
of_null (boolean x) b told is p m = true≢false (sym is ∙ told)
of_null (number n) b told is p m = true≢false (sym is ∙ told)
of_null (string t) b told is p m = true≢false (sym is ∙ told)
of_null (array ds) b told is p m = true≢false (sym is ∙ told)
of_null (object ms) b told is p m = true≢false (sym is ∙ told)

-- a tree with numbers that are no 64-bit whole ones
pub of_other_numbers : (d : Data) (b : Bool) → b ≡ has_float d → b ≡ true → IsRefused detail d
unfolding IsRefused
of_other_numbers d b told is p m = true≢false (sym is ∙ told ∙ m.1)
