use Rattle.std.proofs.Common.{◌≡◌, length, false, sym, ap, ◌∙◌}
use Rattle.std.specs.Prelude.{◌==◌}
use Rattle.oci_model.proofs.NotEmpty.{written}
use Rattle.oci_model.proofs.default_member.write_unless_empty.Goals as goal

pub returns-then-not-is_empty-clause-ok : goal.returns-then-not-is_empty-clause-ok
returns-then-not-is_empty-clause-ok g c =
    let filled : (length c.in-Some.items.items == 0) ≡ false = ap (λ n. n == 0) (sym c.in-Some.items.ok.0) ∙ sym c.is_empty.ensures ∙ c.if-not-is_empty.true in
    rw (c.in-Some.is, written g.T.OciMember.shape g.T.OciMember.plain c.in-Some.items.items filled) c.write_required.ensures.ok
