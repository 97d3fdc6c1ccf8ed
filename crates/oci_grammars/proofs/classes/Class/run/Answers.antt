-- The cut is at the first byte of no such class.
use Rattle.std.proofs.Common.{sym}
use Rattle.oci_grammars.specs.Classes.{class_of}
use Rattle.oci_grammars.proofs.FirstCuts.{front_to, back_from, front_whole, back_none}
use Rattle.oci_grammars.proofs.classes.Class.run.Goals as goal

pub returns-in-Some-clause-front : goal.returns-in-Some-clause-front
returns-in-Some-clause-front c = front_to (class_of c.args.self) c.args.text.now c.in-Some.place (sym c.in-Some.ensures)

pub returns-in-Some-clause-back : goal.returns-in-Some-clause-back
returns-in-Some-clause-back c = back_from (class_of c.args.self) c.args.text.now c.in-Some.place (sym c.in-Some.ensures)

pub returns-in-None-clause-front : goal.returns-in-None-clause-front
returns-in-None-clause-front c = front_whole (class_of c.args.self) c.args.text.now (sym c.in-None.ensures)

pub returns-in-None-clause-back : goal.returns-in-None-clause-back
returns-in-None-clause-back c = sym (back_none (class_of c.args.self) c.args.text.now (sym c.in-None.ensures))
