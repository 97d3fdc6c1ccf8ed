use Rattle.std.proofs.Common.{◌≡◌, drop}
use Rattle.serde_json.specs.View.{items_view, members_view}
use Rattle.serde_json.specs.Written.{items_have_float, members_have_float}
use Rattle.oci_json.specs.Readable.{AreReadable, HoldReadable}
use Rattle.oci_json_tape.specs.Sinks.{Writes}
use Rattle.oci_json_tape.proofs.Adding.{ItemsLeft, MembersLeft}
use Rattle.oci_json_tape.proofs.write.+writes.Given as goal

abbrev pub invariant-write_items-loop-item : goal.invariant-write_items-loop-item
invariant-write_items-loop-item g l =
    let all = items_view l.items.items in
    let left = items_view (drop l.item-index l.item-items) in
    record {
      written : Writes g.K.Sink.holds (ItemsLeft all left) l.fn.out l.out;
      readable : AreReadable left → AreReadable all;
      whole : items_have_float all ≡ items_have_float left;
    }

abbrev pub invariant-write_members-loop-name : goal.invariant-write_members-loop-name
invariant-write_members-loop-name g l =
    let all = members_view l.members.entries in
    let left = members_view l.name-iterator in
    record {
      written : Writes g.K.Sink.holds (MembersLeft all left) l.fn.out l.out;
      readable : HoldReadable left → HoldReadable all;
      whole : members_have_float all ≡ members_have_float left;
    }
