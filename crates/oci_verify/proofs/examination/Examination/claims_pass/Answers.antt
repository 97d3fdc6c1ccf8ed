use Rattle.std.proofs.Common.{arith}
use Rattle.oci_verify.proofs.Passing.{all_below, more_below, none_below}
use Rattle.oci_verify.proofs.examination.Examination.claims_pass.Goals as goal

pub each-init : goal.each-init
each-init g c =
    let self = c.args.self.now in
    let store = self.documents.store.now in
    none_below (g.B.RuleBooks.rules self.books.now) self.asked.now self.documents.limit (g.S.Store.steady store) (g.S.Store.contents store) self.walk.now.claims.items self.walk.now.faults.items

pub each-preserved : goal.each-preserved
each-preserved g c =
    let self = c.args.self.now in
    let store = self.documents.store.now in
    more_below (g.B.RuleBooks.rules self.books.now) self.asked.now self.documents.limit (g.S.Store.steady store) (g.S.Store.contents store) self.walk.now.claims.items self.walk.now.faults.items
    c.each.place c.each.pass c.in_ok-here.here c.are_both-pass.result c.are_both-pass.ensures c.each.invariant c.in_ok-here.ensures

pub returns : goal.returns
returns g c =
    let self = c.args.self.now in
    let store = self.documents.store.now in
    all_below (g.B.RuleBooks.rules self.books.now) self.asked.now self.documents.limit (g.S.Store.steady store) (g.S.Store.contents store) self.walk.now.claims.items self.walk.now.faults.items
    c.each.place c.each.pass (omega arith) c.each.invariant
