use Rattle.std.proofs.Common.{◌≡◌, ◌++◌, ℕ, length, map}
use Rattle.oci_base.specs.Capabilities.{cap, repeated, ascii_upper}
use Rattle.oci_text.proofs.capability.bare.Given as goal

abbrev pub invariant-loop-behind : goal.invariant-loop-behind
invariant-loop-behind l = (n : ℕ) × (map ascii_upper l.fn.text ≡ repeated n cap ++ map ascii_upper l.rest)

abbrev pub decreases-loop-behind : goal.decreases-loop-behind
decreases-loop-behind l = length l.rest
