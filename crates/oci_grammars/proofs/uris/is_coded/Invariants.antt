-- The state of the bytes so far.
use Rattle.std.proofs.Common.{◌≡◌, take}
use Rattle.std.specs.List.{fold}
use Rattle.oci_grammars.specs.Classes.{class_of}
use Rattle.oci_grammars.specs.DecidedUris.{next_escape}
use Rattle.oci_grammars.specs.declared.uris.Escape.TheVariants.{Plain}
use Rattle.oci_grammars.proofs.uris.is_coded.Given as goal

abbrev pub invariant-loop-b : goal.invariant-loop-b
invariant-loop-b l = l.state ≡ fold (next_escape (class_of l.class)) Plain (take l.b-index l.text)
