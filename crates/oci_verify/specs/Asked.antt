-- What `verify` asks where no option is given.
use Rattle.std.specs.Prelude.{◌≡◌, [], false}
use Rattle.oci_findings.specs.declared.asked.Check.{Check}
use Rattle.oci_findings.specs.declared.asked.Unknown.TheVariants.{Allow}

-- no rules, no policy, nothing of members that the schema does not list, and no warning counts; but what is ignored of that is nothing
abbrev pub AsksNothing : Check → Type 0
AsksNothing a = (a.rules ≡ false) × (a.policy.now ≡ []) × (a.unknown ≡ Allow) × (a.strict ≡ false) × (a.ignore.now ≡ []) × (a.only.now ≡ [])
