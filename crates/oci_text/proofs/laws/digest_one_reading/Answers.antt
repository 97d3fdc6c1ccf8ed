-- The cut is at the first colon, since an algorithm has none.
use Rattle.std.proofs.Common.{sym, ◌∙◌}
use Rattle.oci_text.proofs.Algorithm.{no_colon}
use Rattle.oci_base.proofs.Lacks.{cut_once}
use Rattle.oci_text.proofs.laws.digest_one_reading.Goals as goal

pub returns : goal.returns
returns c = λ t a e a' e' h h'.
    cut_once 58 a a' e e' (no_colon a h.is_algorithm) (no_colon a' h'.is_algorithm) (sym h.spelled ∙ h'.spelled)
