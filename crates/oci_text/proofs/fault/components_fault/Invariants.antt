-- What is left has the first fault of the whole.
use Rattle.std.proofs.Common.{◌≡◌, length}
use denote.Text.{Utf8}
use denote.Shadow.{shadow}
use Rattle.std.specs.List.{slice_split}
use Rattle.oci_base.specs.Classes.{is_joint}
use Rattle.oci_base.specs.Digest.{component_refusal}
use Rattle.oci_text.proofs.fault.components_fault.Given as goal

abbrev pub invariant-loop-end : goal.invariant-loop-end
invariant-loop-end l = record {
  text : shadow (Utf8 l.rest);
  same : component_refusal (slice_split is_joint l.fn.algorithm) ≡ component_refusal (slice_split is_joint l.rest);
}

abbrev pub decreases-loop-end : goal.decreases-loop-end
decreases-loop-end l = length l.rest
