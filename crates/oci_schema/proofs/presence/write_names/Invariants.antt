use Rattle.std.proofs.Common.{◌≡◌, ℕ, List, ◌++◌, drop, codes}
use Rattle.std.specs.Fmt.{HasWritten, IsPlainFormatter}
use Rattle.oci_schema.specs.Shapes.{names_of}
use Rattle.oci_schema.specs.Texts.{listed}
use denote.Shadow.{shadow}
use denote.Text.{Utf8}
use Rattle.oci_schema.proofs.presence.write_names.Given as goal

-- what was written, and what is left to be, is the whole text
abbrev pub invariant-loop-name : goal.invariant-loop-name
invariant-loop-name g l = record {
  text : shadow (Utf8 l.mark);
  writes : IsPlainFormatter l.initial.f → (bs : List ℕ) × HasWritten g.W.Write.write_str_gives l.initial.f bs l.f × (bs ++ listed l.mark (names_of (drop l.name-index l.table)) ≡ listed (codes " ") (names_of l.table));
}
