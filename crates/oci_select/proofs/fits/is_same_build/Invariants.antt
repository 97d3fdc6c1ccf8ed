use Rattle.std.proofs.Common.{◌≡◌, ℕ, ◌<◌}
use Rattle.std.specs.List.{slice_get}
use Rattle.oci_select.specs.Fits.{parts_of}
use Rattle.oci_select.proofs.fits.is_same_build.Given as goal

-- the parts so far are the same
abbrev pub invariant-loop-k : goal.invariant-loop-k
invariant-loop-k l = (k : ℕ) → k < l.k → slice_get (parts_of l.a) k ≡ slice_get (parts_of l.b) k
