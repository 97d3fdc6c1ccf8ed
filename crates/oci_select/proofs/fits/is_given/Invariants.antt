use Rattle.std.proofs.Common.{◌≡◌, ℕ, ◌<◌, map, Some}
use Rattle.std.specs.Prelude.{string_bytes}
use Rattle.std.specs.List.{slice_get}
use Rattle.oci_select.proofs.fits.is_given.Given as goal

-- none of the features so far is it
abbrev pub invariant-loop-given : goal.invariant-loop-given
invariant-loop-given l = (k : ℕ) → k < l.given-index → ¬ (slice_get (map string_bytes l.features) k ≡ Some l.feature)
