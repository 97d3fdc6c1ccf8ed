use Rattle.std.proofs.Common.{ℕ, ◌<◌}
use Rattle.std.specs.Prelude.{slice_index_or}
use Rattle.serde_json.specs.View.{view}
use Rattle.oci_layout.specs.Documents.{HasMember}
use Rattle.oci_layout.specs.declared.member.OtherMember.{OtherMember}
use Rattle.oci_layout.proofs.member.first_of.Given as goal

abbrev pub invariant-each : goal.invariant-each
invariant-each l = (k : ℕ) → k < l.place → (d : OtherMember) → ¬ HasMember (slice_index_or l.members k d) (view l.value)
