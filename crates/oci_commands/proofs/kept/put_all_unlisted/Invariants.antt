use Rattle.std.proofs.Common.{◌≡◌}
use Rattle.serde_json.specs.View.{members_view}
use Rattle.oci_schema.specs.Reported.{names_in}
use Rattle.oci_commands.specs.Kept.{with_unlisted}
use Rattle.oci_commands.proofs.kept.put_all_unlisted.Given as goal

-- what was put, with what is still to be put, is all
abbrev pub invariant-loop-name : goal.invariant-loop-name
invariant-loop-name l =
    with_unlisted (names_in l.members) (members_view l.name-iterator) (members_view l.made.entries)
    ≡ with_unlisted (names_in l.members) (members_view l.found.entries) (members_view l.initial.made.entries)
