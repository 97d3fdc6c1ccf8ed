-- What `limit` answers tells of the text.
use Rattle.std.proofs.Common.{◌≡◌, sym, ◌∙◌, ap, None}
use Rattle.std.specs.Prelude.{option_map}
use Rattle.oci_reference.specs.Accepted.{Tells, limit, parts_of}
use Rattle.oci_reference.specs.Names.{default_name}
use Rattle.oci_reference.proofs.Outcomes.{tells, accepted, by_memory}
use Rattle.oci_reference.proofs.reference.Reference.from_str.Goals as goal

pub returns-in-Some-clause-err : goal.returns-in-Some-clause-err
returns-in-Some-clause-err c =
    let p = c.in_ok-pieces.pieces in
    let d = option_map (λ x. x.now) p.digest in
    tells c.args.text.now p.name.now (option_map (λ x. x.now) p.tag) d c.in_ok-pieces.ensures.ok c.in-Some.error
    (ap (λ z. limit z.1 d) (sym c.default_name-names.ensures) ∙ sym c.limit.ensures ∙ c.in-Some.is)

pub returns-in_err-reference-clause-err : goal.returns-in_err-reference-clause-err
returns-in_err-reference-clause-err c =
    let p = c.in_ok-pieces.pieces in
    let g = option_map (λ x. x.now) p.tag in
    let d = option_map (λ x. x.now) p.digest in
    let none : limit (default_name p.name.now).1 d ≡ None = ap (λ z. limit z.1 d) (sym c.default_name-names.ensures) ∙ sym c.limit.ensures ∙ c.in_default.is in
    let is = accepted c.args.text.now p.name.now g d c.in_ok-pieces.ensures.ok none in
    by_memory c.from_residual-in_err-reference.result (Tells c.args.text.now) (parts_of p.name.now g d, is) c.from_residual-in_err-reference.ensures.1
