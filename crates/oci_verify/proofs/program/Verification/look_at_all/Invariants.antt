use Rattle.std.proofs.Common.{◌-◌, ◌^◌, vec_len}
use Rattle.oci_layout.specs.Walk.{IsUnderway}
use Rattle.oci_verify.proofs.program.Verification.look_at_all.Given as goal

abbrev pub invariant-looks : goal.invariant-looks
invariant-looks g l = IsUnderway (g.S.Shown.shows l.shown) l.fn.first.items l.walk.claims.items l.walk.faults.items

abbrev pub decreases-looks : goal.decreases-looks
decreases-looks g l = 2 ^ 63 - vec_len l.walk.faults
