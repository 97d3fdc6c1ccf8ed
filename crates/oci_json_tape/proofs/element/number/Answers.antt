use Rattle.std.proofs.Common.{sym, ap, ◌∙◌, option_map, option_and_then}
use Rattle.serde_json.specs.Read.{number_of}
use Rattle.oci_json_tape.proofs.LookUps.{number_is}
use Rattle.oci_json_tape.proofs.element.number.Goals as goal

pub returns-in-Some : goal.returns-in-Some
returns-in-Some c d b =
    c.parse_number.ensures ∙ ap (λ r. option_and_then number_of (option_map (λ s. s.now) r)) (sym c.in-Some.is) ∙ sym (number_is _ _ c.as_number.ensures d b)

pub returns-in-None : goal.returns-in-None
returns-in-None c d b = ap (λ r. option_and_then number_of (option_map (λ s. s.now) r)) (sym c.in-None.is) ∙ sym (number_is _ _ c.as_number.ensures d b)
