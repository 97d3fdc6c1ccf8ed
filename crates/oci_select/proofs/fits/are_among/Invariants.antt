use Rattle.std.proofs.Common.{◌≡◌, ℕ, ◌<◌, List, map, Some}
use Rattle.std.specs.Prelude.{string_bytes}
use Rattle.std.specs.List.{slice_get, Contains}
use Rattle.oci_select.proofs.fits.are_among.Given as goal

-- the features so far are given
abbrev pub invariant-loop-feature : goal.invariant-loop-feature
invariant-loop-feature l = (k : ℕ) → k < l.feature-index → (feature : List ℕ) → slice_get (map string_bytes l.needed) k ≡ Some feature → Contains (map string_bytes l.given) feature
