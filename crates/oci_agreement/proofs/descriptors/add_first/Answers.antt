use Rattle.std.proofs.Common.{sym, ◌∙◌}
use Rattle.oci_agreement.proofs.FirstMaps.{put_first}
use Rattle.oci_agreement.proofs.descriptors.add_first.Goals as goal

pub returns : goal.returns
returns c =
    put_first c.args.mention.now c.in_ok-digest.digest c.args.first.now c.insert.new.self c.in_ok-digest.ensures.ok (sym c.contains_key.ensures ∙ c.if-contains_key.false)
    c.in_ok-insert.ensures.updates
