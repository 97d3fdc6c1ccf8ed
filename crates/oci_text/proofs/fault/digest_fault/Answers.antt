-- The text is cut at its first colon.
use Rattle.std.proofs.Common.{sym, ◌∙◌, ap, lit<}
use Rattle.std.specs.Prelude.{Some}
use Rattle.std.specs.Option.{option_or}
use Rattle.std.proofs.lemmas.Str.Pattern.{split_parts, NoCharPasses-char}
use Rattle.oci_base.specs.Classes.{colon}
use Rattle.oci_base.specs.Digest.{encoded_refusal}
use Rattle.oci_text.proofs.Components.{missing, by_cut}
use Rattle.oci_text.proofs.fault.digest_fault.Goals as goal

pub returns-in-None : goal.returns-in-None
returns-in-None c = sym (missing c.args.text.now (λ i lt. NoCharPasses-char colon c.args.text.now i c.in-None.ensures.cases (lit< tt) lt))

pub returns-in-Some-components_fault : goal.returns-in-Some-components_fault
returns-in-Some-components_fault c =
    let a = c.in-Some.algorithm in
    let e = c.in-Some.encoded in
    let parts = split_parts colon c.args.text.now (Some (a, e)) c.in-Some.ensures.cases (lit< tt) in
    sym (by_cut c.args.text.now a.now e.now parts.0 parts.1 ∙ ap (λ z. option_or z (encoded_refusal a.now e.now)) (sym c.in-Some-components_fault.ensures))

pub returns-in-None-components_fault : goal.returns-in-None-components_fault
returns-in-None-components_fault c =
    let a = c.in-Some.algorithm in
    let e = c.in-Some.encoded in
    let parts = split_parts colon c.args.text.now (Some (a, e)) c.in-Some.ensures.cases (lit< tt) in
    c.encoded_fault.ensures
    ∙ sym (by_cut c.args.text.now a.now e.now parts.0 parts.1 ∙ ap (λ z. option_or z (encoded_refusal a.now e.now)) (sym c.in-None-components_fault.ensures))
