-- What an item that is the text, and one that is not, tell of the table.
use Rattle.oci_text.proofs.Places.{stands_at, stands_behind}
use Rattle.oci_text.proofs.place.place.Goals as goal

pub returns-then-eq-clause-some : goal.returns-then-eq-clause-some
returns-then-eq-clause-some c = stands_at _ _ _ _ _ _ c.eq.ensures c.loop-i-test.true c.if-eq.true

pub loop-i-preserved : goal.loop-i-preserved
loop-i-preserved c = stands_behind _ _ _ _ _ _ _ c.eq.ensures c.loop-i-test.true c.if-eq.false c.loop-i.invariant
