-- The cut is at the first place.
use Rattle.std.proofs.Common.{sym}
use Rattle.oci_grammars.proofs.FirstCuts.{front, back, whole, nothing}
use Rattle.oci_grammars.proofs.cuts.cut.Goals as goal

pub returns-in-Some-clause-front : goal.returns-in-Some-clause-front
returns-in-Some-clause-front c = front c.args.mark c.args.text.now c.in-Some.place (sym c.in-Some.ensures)

pub returns-in-Some-clause-back : goal.returns-in-Some-clause-back
returns-in-Some-clause-back c = back c.args.mark c.args.text.now c.in-Some.place (sym c.in-Some.ensures)

pub returns-in-None-clause-front : goal.returns-in-None-clause-front
returns-in-None-clause-front c = whole c.args.mark c.args.text.now (sym c.in-None.ensures)

pub returns-in-None-clause-back : goal.returns-in-None-clause-back
returns-in-None-clause-back c = sym (nothing c.args.mark c.args.text.now (sym c.in-None.ensures))
