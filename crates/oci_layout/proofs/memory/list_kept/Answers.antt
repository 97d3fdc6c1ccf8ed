use Rattle.std.proofs.Common.{subst, arith}
use Rattle.std.proofs.lemmas.List.{take_all}
use Rattle.oci_layout.proofs.Names.{AreNamesOf, one_more_at, listing}
use Rattle.oci_layout.proofs.memory.list_kept.Goals as goal

pub each-preserved : goal.each-preserved
each-preserved c =
    one_more_at c.args.kept.now c.each.place _ c.each.listed.items c.add_listed.new.listed.items (omega arith) c.each.invariant c.in_ok-add_listed.ensures

pub returns : goal.returns
returns c =
    listing c.args.kept.now c.each.listed.items
    (subst (λ l. AreNamesOf l c.each.listed.items) (take_all c.each.place c.args.kept.now (omega arith)) c.each.invariant)
