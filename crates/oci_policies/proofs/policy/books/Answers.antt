use Rattle.oci_policies.specs.Policies.{book_in}
use Rattle.oci_policies.specs.Steps.{book_view}
use Rattle.oci_policies.proofs.Lists.{each_next}
use Rattle.oci_policies.proofs.policy.books.Goals as goal

pub loop-index-preserved : goal.loop-index-preserved
loop-index-preserved c =
    each_next (book_in c.args.kinds.now) book_view c.deref-item-items.result.now c.loop-index.index c.item-item.result c.loop-index.found.items c.push.new.self.items c.in-Ok.book _
    c.loop-index-test.true c.item-item.is c.in_ok-push-in-Ok.ensures.items c.in-Ok.ensures c.loop-index.invariant
