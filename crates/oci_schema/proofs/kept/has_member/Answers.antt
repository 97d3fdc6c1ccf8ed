use Rattle.std.proofs.Common.{◌∙◌}
use Rattle.oci_schema.proofs.NormalParts.{has_told}
use Rattle.oci_schema.proofs.kept.has_member.Goals as goal

pub returns : goal.returns
returns c = c.contains_key.ensures ∙ has_told c.args.name.now c.args.members.now.entries
