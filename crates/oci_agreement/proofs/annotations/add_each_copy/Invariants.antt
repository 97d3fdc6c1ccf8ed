use Rattle.std.proofs.Common.{◌≡◌, ◌++◌, map}
use Rattle.serde_json.specs.View.{members_view}
use Rattle.oci_agreement.specs.Copies.{expected_of, found_of}
use Rattle.oci_agreement.specs.Listed.{told_of, of_keys, copy_told}
use Rattle.oci_agreement.proofs.annotations.add_each_copy.Given as goal

-- what was told, and what is still to be told, is all
abbrev pub invariant-loop-name : goal.invariant-loop-name
invariant-loop-name l =
    map told_of l.broken.items ++ of_keys (copy_told l.copies.document l.copies.pointer.now (expected_of l.copies) (found_of l.copies)) (members_view l.name-iterator)
    ≡ map told_of l.initial.broken.items ++ of_keys (copy_told l.copies.document l.copies.pointer.now (expected_of l.copies) (found_of l.copies)) (members_view l.members.entries)
