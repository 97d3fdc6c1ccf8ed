use Rattle.std.proofs.Common.{◌≡◌, ℕ, List, ◌++◌, IsUtf8}
use Rattle.std.specs.Fmt.{HasWritten, IsPlainFormatter}
use Rattle.std.specs.Str.Iter.{chars_rest}
use Rattle.oci_base.specs.Escaped.{escaped}
use Rattle.oci_base.proofs.shown.EscapedDisplay.fmt.Given as goal

abbrev pub invariant-loop-c : goal.invariant-loop-c
invariant-loop-c g l =
    (done : List ℕ) × IsUtf8 (chars_rest l.c-iterator) × (done ++ escaped (chars_rest l.c-iterator) ≡ escaped l.fn.self.0.now)
    × (IsPlainFormatter l.initial.f → HasWritten g.W.Write.write_str_gives l.initial.f done l.f)
