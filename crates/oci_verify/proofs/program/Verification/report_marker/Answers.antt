use Rattle.oci_verify.proofs.Layouts.{marked, exact_marker}
use Rattle.oci_verify.proofs.program.Verification.report_marker.Goals as goal

pub returns-clause-marked : goal.returns-clause-marked
returns-clause-marked g c =
    let layout = c.args.self.now.layout.now in
    let options = c.args.self.now.options.now in
    let steady = g.L.Store.steady layout in
    let names = g.L.ImageLayout.names layout in
    let tops = g.L.ImageLayout.tops layout in
    let contents = g.L.Store.contents layout in
    marked options.limit steady tops c.in_ok-marker.marker c.in_ok-report.field-0.is_right c.in_ok-marker.ensures c.in_ok-report.ensures

pub returns-clause-right : goal.returns-clause-right
returns-clause-right g c =
    let layout = c.args.self.now.layout.now in
    let options = c.args.self.now.options.now in
    let steady = g.L.Store.steady layout in
    let names = g.L.ImageLayout.names layout in
    let tops = g.L.ImageLayout.tops layout in
    let contents = g.L.Store.contents layout in
    exact_marker options.limit steady tops contents c.in_ok-marker.marker c.in_ok-report.field-0.is_right c.in_ok-marker.ensures c.in_ok-report.ensures
