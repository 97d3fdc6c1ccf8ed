-- The words that are left decide.
use Rattle.std.proofs.Common.{◌≡◌, drop, map}
use Rattle.oci_grammars.specs.DecidedUris.{is_word_of}
use Rattle.oci_grammars.proofs.signals.is_word_of.Given as goal

abbrev pub invariant-loop-word : goal.invariant-loop-word
invariant-loop-word l = is_word_of (map (λ t. t.now) l.words) l.text ≡ is_word_of (map (λ t. t.now) (drop l.word-index l.words)) l.text
