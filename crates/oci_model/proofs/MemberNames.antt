-- What stands under the names of a member.
use Rattle.std.proofs.Common.{◌≡◌, ℕ, List, [], ◌∷◌, Bool, true, false, ◌||◌, Option, None, bytes_eq, refl, inl}
use Rattle.serde_json.specs.Data.{Data}
use Rattle.oci_model.specs.Reading.{OneOf}

-- where there is no second name
pub alone : (one found : Option Data) → one ≡ found → OneOf one found None
alone one found is = inl (refl, is)
