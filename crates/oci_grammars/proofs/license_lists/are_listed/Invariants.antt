-- What is so of the words so far, and of those that are left.
use Rattle.std.proofs.Common.{◌≡◌, ◌&&◌, false, length}
use Rattle.oci_grammars.specs.DecidedLicenses.{are_listed}
use Rattle.oci_grammars.specs.Licenses.{pieces, words_in}
use Rattle.oci_grammars.proofs.license_lists.are_listed.Given as goal

abbrev pub invariant-loop-rest : goal.invariant-loop-rest
invariant-loop-rest l =
    (l.listed && are_listed (words_in l.lists.licenses.now) (words_in l.lists.exceptions.now) l.behind_with (pieces l.rest))
    ≡ are_listed (words_in l.lists.licenses.now) (words_in l.lists.exceptions.now) false (pieces l.text)

abbrev pub decreases-loop-rest : goal.decreases-loop-rest
decreases-loop-rest l = length l.rest
