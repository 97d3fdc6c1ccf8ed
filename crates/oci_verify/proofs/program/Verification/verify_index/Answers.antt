use Rattle.oci_verify.proofs.Layouts.{judged_index}
use Rattle.oci_verify.proofs.program.Verification.verify_index.Goals as goal

pub returns : goal.returns
returns g c =
    let seen = c.in_ok-fault.field-0 in
    let layout = c.args.self.now.layout.now in
    judged_index (g.B.RuleBooks.rules c.args.self.now.books.now) c.args.self.now.options.now (g.L.Store.steady layout) (g.L.ImageLayout.names layout) (g.L.Store.contents layout) c.args.index.now seen.fault seen.claims.items
    c.verify_claims.result c.in_ok-fault.ensures c.verify_claims.ensures
