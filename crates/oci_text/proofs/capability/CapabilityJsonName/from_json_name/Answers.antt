use Rattle.std.proofs.Common.{◌≡◌, ℕ, List, sym, ap, ◌∙◌, map, false}
use Rattle.std.specs.Prelude.{IsTrue}
use Rattle.oci_base.specs.Names.{is_listed}
use Rattle.oci_text.specs.Capability.{capability_table}
use Rattle.oci_base.specs.Capabilities.{ascii_upper, CapText}
use Rattle.oci_text.proofs.CapTexts.{not_spelled, if_none}
use Rattle.oci_text.proofs.capability.CapabilityJsonName.from_json_name.Goals as goal

pub returns-clause-none : goal.returns-clause-none
returns-clause-none c =
    let s = c.bare.ensures.strips in
    let told : is_listed capability_table (map ascii_upper c.bare.result.now) ≡ false → (n : List ℕ) → IsTrue (is_listed capability_table n) → CapText c.args.text.now n → ⊥
    = λ e n is. not_spelled c.args.text.now c.bare.result.now n s.0 (ap (map ascii_upper) (sym c.as_bytes.ensures.value) ∙ s.1) c.bare.ensures.bare e is in
    if_none _ c.of_any_case.ensures.none told
