use Rattle.std.proofs.Common.{sym, subst}
use Rattle.std.proofs.lemmas.Result.{on_ok_weaker}
use Rattle.oci_schema.specs.Places.{pointer}
use Rattle.oci_findings.specs.LeftOut.{Adds}
use Rattle.oci_findings.proofs.Listed.{none_added, both_added, member_added, item_added}
use Rattle.oci_findings.proofs.left_out.+left_out.Goals.{add_member-then-is_alias+in_ok-push, add_member-else-is_alias}
use Rattle.oci_findings.proofs.left_out.+left_out.Goals as goal

pub add_entries-each_entry-preserved : goal.add_entries-each_entry-preserved
add_entries-each_entry-preserved t c =
    member_added (pointer c.args.at.now) c.in-Some-next_member.name.now c.args.found.now.items c.each_entry.found.items c.add_part.new.found.items c.each_entry.invariant c.in_ok-add_part.ensures

pub add_items-each_item-preserved : goal.add_items-each_item-preserved
add_items-each_item-preserved t c =
    item_added (pointer c.args.at.now) c.each_item.index c.args.found.now.items c.each_item.found.items c.add_part.new.found.items c.each_item.invariant c.in_ok-add_part.ensures

pub add_member-returns : goal.add_member-returns
add_member-returns t c =
    let old = c.args.found.now.items in
    let before : Adds c.args.at.now old c.if-is_alias.found.items = elim c.if-is_alias.branch [
      | add_member-then-is_alias+in_ok-push w ↦ subst (λ v. Adds c.args.at.now old v.items) (sym w.found-is) w.in_ok-push.ensures
      | add_member-else-is_alias w ↦ subst (λ v. Adds c.args.at.now old v.items) (sym w.found-is) (none_added (pointer c.args.at.now) old)
    ] in
    on_ok_weaker c.add_value.result (λ more. both_added (pointer c.args.at.now) old c.if-is_alias.found.items c.add_value.new.found.items before more) c.add_value.ensures

pub add_members-each_member-preserved : goal.add_members-each_member-preserved
add_members-each_member-preserved t c =
    member_added (pointer c.args.at.now) c.in-Some-next_member.name.now c.args.found.now.items c.each_member.found.items c.add_member.new.found.items c.each_member.invariant c.in_ok-add_member.ensures
