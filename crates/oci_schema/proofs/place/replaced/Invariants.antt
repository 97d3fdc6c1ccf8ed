use Rattle.std.proofs.Common.{◌≡◌, ◌++◌, length, string_bytes, IsUtf8}
use Rattle.oci_schema.specs.Places.{replaced}
use Rattle.oci_schema.proofs.place.replaced.Given as goal

-- what was made, and what is still to be made of the rest, is all
abbrev pub invariant-loop-before : goal.invariant-loop-before
invariant-loop-before l = record {
  all : string_bytes l.made ++ replaced l.mark l.by l.rest ≡ replaced l.mark l.by l.fn.text;
  is_text : IsUtf8 l.rest;
}

abbrev pub decreases-loop-before : goal.decreases-loop-before
decreases-loop-before l = length l.rest
