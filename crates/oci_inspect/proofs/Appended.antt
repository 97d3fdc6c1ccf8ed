-- Lines that are put together.
use Rattle.std.specs.Prelude.{◌≡◌, ◌++◌, [], ℕ, List}
use Rattle.std.proofs.Common.{subst, sym}
use Rattle.oci_base.specs.Escaped.{IsLine}
use Rattle.oci_inspect.specs.Shown.{AreLines}
use Rattle.oci_inspect.specs.Shown.AreLines.{none, more}

pub no_lines : (text : List ℕ) → text ≡ [] → AreLines text
no_lines text is = subst AreLines (sym is) none

pub more_lines : (longer text line : List ℕ) → longer ≡ text ++ line → AreLines text → IsLine line → AreLines longer
more_lines longer text line is lines one = subst AreLines (sym is) (more text line lines one)
