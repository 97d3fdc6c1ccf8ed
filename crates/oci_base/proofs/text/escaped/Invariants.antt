use Rattle.std.proofs.Common.{◌≡◌, ◌++◌, IsUtf8, string_bytes}
use Rattle.std.specs.Str.Iter.{chars_rest}
use Rattle.oci_base.specs.Escaped.{escaped}
use Rattle.oci_base.proofs.text.escaped.Given as goal

abbrev pub invariant-loop-c : goal.invariant-loop-c
invariant-loop-c l = IsUtf8 (chars_rest l.c-iterator) × (string_bytes l.shown ++ escaped (chars_rest l.c-iterator) ≡ escaped l.fn.text)
