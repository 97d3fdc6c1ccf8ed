use Rattle.std.proofs.Common.{◌≡◌, ℕ, List, drop, map}
use Rattle.std.specs.Option.{option_or}
use Rattle.oci_agreement.specs.Descriptors.{mention_of, first_said}
use Rattle.oci_agreement.specs.Firsts.{said_in}
use Rattle.oci_agreement.proofs.descriptors.first_of_each.Given as goal

-- what the map has, and else the first of those that are left
abbrev pub invariant-loop-mention : goal.invariant-loop-mention
invariant-loop-mention l =
    (digest : List ℕ) → option_or (said_in l.first digest) (first_said digest (map mention_of (drop l.mention-index l.mentions))) ≡ first_said digest (map mention_of l.mentions)
