-- The text stands in the table exactly if it stands behind what was looked at.
use Rattle.std.proofs.Common.{◌≡◌, drop, map}
use Rattle.oci_base.specs.Names.{is_listed}
use Rattle.oci_text.proofs.place.place.Given as goal

abbrev pub invariant-loop-i : goal.invariant-loop-i
invariant-loop-i l = is_listed (map (λ n. n.now) l.texts) l.text ≡ is_listed (map (λ n. n.now) (drop l.i l.texts)) l.text
