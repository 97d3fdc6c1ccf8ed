-- What the decider of signals computes.
use Rattle.std.specs.Prelude.{ℕ, ◌&&◌, ◌||◌, Bool, List, take, drop, nat_le, codes}
use Rattle.std.specs.Char.{is_ascii_digit}
use Rattle.oci_base.specs.Classes.{plus, dash, until, after}
use Rattle.oci_grammars.specs.Classes.{is_positive}
use Rattle.oci_grammars.specs.Decided.{capped, is_headed}
use Rattle.oci_grammars.specs.DecidedUris.{is_any_case, is_word_of}
use Rattle.oci_grammars.specs.Signals.{signal_words}

-- a number without a zero in front, and no larger than this
abbrev pub is_plain : ℕ → List ℕ → Bool
is_plain high text = is_headed is_positive is_ascii_digit text && nat_le (capped text) high

abbrev pub is_real_time : List ℕ → Bool
is_real_time text =
    (is_any_case (codes "RTMIN") (until plus text) && is_plain 30 (after plus text))
    || (is_any_case (codes "RTMAX") (until dash text) && is_plain 30 (after dash text))

abbrev pub is_bare_signal : List ℕ → Bool
is_bare_signal text = is_word_of signal_words text || is_real_time text

abbrev pub is_signal_name : List ℕ → Bool
is_signal_name text = is_bare_signal text || (is_any_case (codes "SIG") (take 3 text) && is_bare_signal (drop 3 text))

abbrev pub is_signal : List ℕ → Bool
is_signal text = is_signal_name text || is_plain 64 text
