use Rattle.std.proofs.Common.{◌≡◌, ◌++◌, List, drop, map}
use Rattle.oci_agreement.specs.Descriptors.{Mention, mention_of, conflict_of, conflicts}
use Rattle.oci_agreement.specs.Firsts.{IsFirst}
use Rattle.oci_agreement.proofs.descriptors.add_conflicts.Given as goal

-- what was listed, and what is still to be listed, is all
abbrev pub invariant-loop-place : goal.invariant-loop-place
invariant-loop-place l =
    (all : List Mention) → IsFirst l.first all
    → map conflict_of l.found.items ++ conflicts l.agreement all l.place (map mention_of (drop l.place l.mentions))
    ≡ map conflict_of l.initial.found.items ++ conflicts l.agreement all 0 (map mention_of l.mentions)
