use Rattle.std.proofs.Common.{◌≡◌, drop}
use Rattle.oci_base.specs.Names.{is_listed}
use Rattle.oci_schema.specs.Reported.{names_in}
use Rattle.oci_commands.proofs.kept.lists.Given as goal

abbrev pub invariant-loop-member : goal.invariant-loop-member
invariant-loop-member l = is_listed (names_in l.members) l.name ≡ is_listed (names_in (drop l.member-index l.members)) l.name
