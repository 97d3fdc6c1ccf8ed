-- What is no list of processors, as a member.
use Rattle.std.proofs.Common.{◌≡◌, List, ℕ, Bool, false, Some, None, ◌∙◌, sym, subst, true≢false}
use Rattle.std.specs.Prelude.{◌↔◌, IsTrue}
use Rattle.serde_json.specs.Data.{Data}
use Rattle.serde_json.specs.Find.{as_str}
use Rattle.oci_base.specs.CpuList.{IsCpuList}
use Rattle.oci_model.specs.Shape.{cpu_text}
use Rattle.oci_model.specs.Refused.{IsRefused}

-- what is no text
pub no_text : (d : Data) → None ≡ as_str d → IsRefused cpu_text d
unfolding IsRefused
no_text d e p m = let k = e ∙ m.1 in cc

-- a text that is none
pub no_list : (t : List ℕ) (d : Data) (b : Bool) → Some t ≡ as_str d → IsTrue b ↔ IsCpuList t → b ≡ false → IsRefused cpu_text d
unfolding IsRefused
no_list t d b e told is p m =
    let same : m.0 ≡ t = (let k = e ∙ m.1 in cc) in
    true≢false (sym (told.1 (subst IsCpuList same m.3)) ∙ is)
