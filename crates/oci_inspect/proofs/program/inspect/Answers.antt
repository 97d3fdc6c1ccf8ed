use Rattle.oci_inspect.proofs.Showing.{refused}
use Rattle.oci_inspect.proofs.program.inspect.Goals as goal

pub returns-in-Err-clause-wrong : goal.returns-in-Err-clause-wrong
returns-in-Err-clause-wrong g c = λ one.
    let layout = c.args.layout.now in
    refused c.args.asked.now (g.L.Store.steady layout) (g.L.ImageLayout.tops layout) (g.L.Store.contents layout) c.in-Err.error c.refuse.result c.in-Err.ensures.err c.refuse.ensures.status one
