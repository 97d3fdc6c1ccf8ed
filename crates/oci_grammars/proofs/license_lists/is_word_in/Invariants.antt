-- What was found so far, and what is left.
use Rattle.std.proofs.Common.{◌≡◌, ◌||◌, length}
use Rattle.oci_grammars.specs.DecidedUris.{is_word_of}
use Rattle.oci_grammars.specs.Licenses.{words_in}
use Rattle.oci_grammars.proofs.license_lists.is_word_in.Given as goal

abbrev pub invariant-loop-rest : goal.invariant-loop-rest
invariant-loop-rest l = (l.found || is_word_of (words_in l.rest) l.text) ≡ is_word_of (words_in l.list) l.text

abbrev pub decreases-loop-rest : goal.decreases-loop-rest
decreases-loop-rest l = length l.rest
