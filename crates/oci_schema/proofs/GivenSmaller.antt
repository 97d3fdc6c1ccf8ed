-- What is given for a member is no larger than what was found.
use Rattle.std.proofs.Common.{◌≡◌, ◌≤◌, Option, Some, None, sym, subst, arith}
use Rattle.std.specs.Prelude.{option_and_then}
use Rattle.serde_json.specs.Data.{Data, null, boolean, number, string, array, object}
use Rattle.oci_model.specs.Means.{unless_null}
use Rattle.oci_model.specs.Shape.{Presence, required, defaulted, optional, nullable, unless_empty}
use Rattle.oci_model.specs.Sizes.{size, found_size}
use Rattle.oci_schema.specs.Given.{given}

null_smaller : (d : Data) → found_size (unless_null d) ≤ size d
null_smaller null = omega arith
null_smaller (boolean b) = omega arith
null_smaller (number n) = omega arith
null_smaller (string s) = omega arith
null_smaller (array ds) = omega arith
null_smaller (object ms) = omega arith

found_null_smaller : (o : Option Data) → found_size (option_and_then unless_null o) ≤ found_size o
found_null_smaller None = omega arith
found_null_smaller (Some d) = null_smaller d

pub given_smaller : (p : Presence) (o : Option Data) (d : Data) → Some d ≡ given p o → size d ≤ found_size o
given_smaller p o d is = subst (λ x. found_size x ≤ found_size o) (sym is) (at p o)
  where
    at : (p : Presence) (o : Option Data) → found_size (given p o) ≤ found_size o
    at required o = omega arith
    at (defaulted q) o = omega arith
    at optional o = found_null_smaller o
    at nullable o = found_null_smaller o
    at unless_empty o = found_null_smaller o
