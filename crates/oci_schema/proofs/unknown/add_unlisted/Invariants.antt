use Rattle.std.proofs.Common.{◌≡◌, ◌++◌, map}
use Rattle.serde_json.specs.View.{members_view}
use Rattle.oci_schema.specs.Places.{pointer}
use Rattle.oci_schema.specs.Reported.{reported, names_in}
use Rattle.oci_schema.specs.Unknown.{unlisted}
use Rattle.oci_schema.proofs.unknown.add_unlisted.Given as goal

-- what was found, and what is still to be found, is all
abbrev pub invariant-loop-name : goal.invariant-loop-name
invariant-loop-name l =
    map reported l.found.items ++ unlisted (names_in l.owner.members.now) (pointer l.at) (members_view l.name-iterator)
    ≡ map reported l.initial.found.items ++ unlisted (names_in l.owner.members.now) (pointer l.at) (members_view l.members.entries)
