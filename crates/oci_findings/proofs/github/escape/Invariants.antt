use Rattle.std.proofs.Common.{◌≡◌, ◌++◌, IsUtf8, string_bytes}
use Rattle.std.specs.Str.Iter.{chars_rest}
use Rattle.oci_findings.specs.Github.{part_text}
use Rattle.oci_findings.proofs.github.escape.Given as goal

abbrev pub invariant-loop-c : goal.invariant-loop-c
invariant-loop-c l = IsUtf8 (chars_rest l.c-iterator) × (string_bytes l.out ++ part_text l.part (chars_rest l.c-iterator) ≡ part_text l.part l.fn.text)
