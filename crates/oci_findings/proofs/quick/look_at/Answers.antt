use Rattle.std.proofs.Common.{sym, subst}
use Rattle.oci_json_tape.specs.Elements.{BeginsWithData}
use Rattle.oci_findings.proofs.Allowed.{kind_in}
use Rattle.oci_findings.proofs.quick.look_at.Goals as goal

pub returns-clause-kind : goal.returns-clause-kind
returns-clause-kind c =
    let o = c.in_ok-tape.ensures in
    let begins : BeginsWithData c.root-root.result o.0 = subst (λ ts. BeginsWithData ts o.0) (sym c.root-root.ensures.same) o.2 in
    kind_in c.args.asked c.args.name.now c.args.bytes.now o.0 c.in_ok-kind.kind o.1 (sym (c.in_ok-kind.ensures o.0 begins))
