use Rattle.std.proofs.Common.{inl, inr, sym, true≢false, ◌∙◌}
use Rattle.oci_layout.proofs.Looks.{looked_at, looked_into}
use Rattle.oci_layout.proofs.layout.Layout.look_into.Goals as goal

pub returns-then-not-is_small : goal.returns-then-not-is_small
returns-then-not-is_small g c = λ bytes is known full.
    inl (inr (λ small. true≢false (sym (c.is_small.ensures.1 small) ∙ c.if-not-is_small.true), c.of_fault.ensures))

pub returns-in-Some : goal.returns-in-Some
returns-in-Some g c = λ bytes is known full. inl (inl (c.is_small.ensures.0 c.if-not-is_small.false, c.in-Some.ensures bytes known))

pub returns : goal.returns
returns g c =
    let steady = g.S.Store.steady c.args.self.now.store.now in
    let known = g.S.Blob.Read.remaining c.args.blob.now in
    let limit = c.args.self.now.limit in
    looked_into c.args.self.now.quick steady limit c.args.claim.now known c.args.size c.look_at.result
    (looked_at steady limit c.args.claim.now known c.look_at.result (c.is_small.ensures.0 c.if-not-is_small.false) c.look_at.ensures)
