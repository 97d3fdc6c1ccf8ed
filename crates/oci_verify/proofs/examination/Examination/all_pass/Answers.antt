use Rattle.oci_verify.proofs.Passing.{found_both}
use Rattle.oci_verify.proofs.examination.Examination.all_pass.Goals as goal

pub returns : goal.returns
returns g c =
    let self = c.args.self.now in
    let store = self.documents.store.now in
    let walk = self.walk.now in
    found_both (g.B.RuleBooks.rules self.books.now) self.asked.now self.documents.limit (g.S.Store.steady store) (g.S.Store.contents store) c.args.index.now c.args.fault walk.claims.items walk.faults.items
    c.in_ok-first.first c.in_ok-others.others c.are_both.result c.are_both.ensures c.in_ok-first.ensures c.in_ok-others.ensures
