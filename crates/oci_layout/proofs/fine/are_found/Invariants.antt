use Rattle.std.proofs.Common.{◌≡◌, ℕ, ◌<◌, Option, None}
use Rattle.std.specs.Prelude.{slice_index_or}
use Rattle.oci_layout.specs.declared.claim.Fault.{Fault}
use Rattle.oci_layout.proofs.fine.are_found.Given as goal

abbrev pub invariant-each : goal.invariant-each
invariant-each l = (k : ℕ) → k < l.place → (d : Option Fault) → slice_index_or l.faults k d ≡ None
