use Rattle.std.proofs.Common.{inl, sym, subst, rules}
use Rattle.oci_json_tape.specs.Elements.{BeginsWithData}
use Rattle.oci_findings.specs.Checks.{HasKeysOnce, IsAsked, IsOfKind, IsRightValue}
use Rattle.oci_findings.proofs.Allowed.{alone, asked_at}
use Rattle.oci_findings.proofs.quick.is_right.Goals as goal

pub returns-in-Some-kind_of : goal.returns-in-Some-kind_of
returns-in-Some-kind_of c = λ yes books.
    let o = c.in-Some.ensures in
    let kind = c.in-Some-kind_of.kind in
    let m : IsOfKind kind c.args.bytes.now = c.is_document.ensures yes o.0 o.1 o.2 in
    let begins : BeginsWithData c.root.result o.0 = subst (λ ts. BeginsWithData ts o.0) (sym c.root.ensures.same) o.2 in
    let asks : IsAsked c.args.asked.now.kind c.args.name.now m.1.0 kind = asked_at c.args.asked.now.kind c.args.name.now c.args.bytes.now o.0 m.1.0 kind o.1 m.1.1 (sym (c.in-Some-kind_of.ensures o.0 begins)) in
    let once : HasKeysOnce c.args.asked.now kind c.args.bytes.now = inl o.3 in
    let value : IsRightValue books c.args.asked.now kind m.1.0 = alone books c.args.asked.now kind m.1.0 (search rules) (search rules) (search rules) (m.0, m.1.2) in
    inl (kind, m.1.0, asks, m.1.1, value, once)
