use Rattle.std.proofs.Common.{arith}
use Rattle.serde_json.specs.View.{view}
use Rattle.oci_commands.proofs.Targets.{all_places, none_yet}
use Rattle.oci_commands.proofs.pins.digest_named.Goals as goal

pub loop-place-init : goal.loop-place-init
loop-place-init c = none_yet (view c.args.index.now) c.args.tag.now

pub returns : goal.returns
returns c =
    all_places (view c.args.index.now) c.args.tag.now c.loop-place.place c.loop-place.found (λ q le. c.count_of-place-end.ensures q (omega arith)) c.loop-place.invariant
