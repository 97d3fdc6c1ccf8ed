use Rattle.std.proofs.Common.{ap, ◌∙◌}
use Rattle.serde_json.specs.Data.{object}
use Rattle.serde_json.specs.View.{members_view}
use Rattle.serde_json.proofs.Views.{view-Object}
use Rattle.oci_schema.proofs.Filled.{filled_below, filled_none, filled_well, filled_fits, filled_writable, filled_more, filled_all}
use Rattle.oci_schema.proofs.absent.default_members.Goals as goal

pub bounds-defaults-i : goal.bounds-defaults-i
bounds-defaults-i g c = filled_below _ _ c.args.members.now c.args.defaults.now c.loop-i.i _ c.loop-i.invariant c.loop-i-test.true

pub loop-i-init : goal.loop-i-init
loop-i-init g c = filled_none _ _ _ _ c.requires.well c.requires.fits c.requires.writable (ap members_view c.new-made.ensures.empty)

pub put_default-requires-clause-well : goal.put_default-requires-clause-well
put_default-requires-clause-well g c =
    filled_well _ _ c.args.members.now c.args.defaults.now c.loop-i.i _ _ c.loop-i-test.true c.loop-i.invariant

pub put_default-requires-clause-fits : goal.put_default-requires-clause-fits
put_default-requires-clause-fits g c =
    filled_fits _ _ c.args.members.now c.args.defaults.now c.loop-i.i _ _ c.loop-i-test.true c.loop-i.invariant

pub put_default-requires-clause-writable : goal.put_default-requires-clause-writable
put_default-requires-clause-writable g c =
    filled_writable _ _ c.args.members.now c.args.defaults.now c.loop-i.i _ _ c.loop-i-test.true c.loop-i.invariant

pub loop-i-preserved : goal.loop-i-preserved
loop-i-preserved g c =
    filled_more _ _ c.args.members.now c.args.defaults.now c.loop-i.i _ _ c.loop-i-test.true c.loop-i.invariant _ c.in_ok-put_default.ensures.ok

pub returns-clause-ok : goal.returns-clause-ok
returns-clause-ok g c = view-Object c.loop-i.made ∙ ap object (filled_all _ _ c.args.members.now c.args.defaults.now c.loop-i.i _ c.loop-i-test.false c.loop-i.invariant)
