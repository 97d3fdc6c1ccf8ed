use Rattle.std.proofs.Common.{◌≡◌, drop, map}
use Rattle.toml.specs.View.{items_view}
use Rattle.oci_policies.specs.Policies.{book_in}
use Rattle.oci_policies.specs.Steps.{book_view}
use Rattle.oci_policies.specs.Values.{behind, each}
use Rattle.oci_policies.proofs.policy.books.Given as goal

-- what was read, and what is still to be read, is all
abbrev pub invariant-loop-index : goal.invariant-loop-index
invariant-loop-index l = behind (map book_view l.found.items) (each (book_in l.kinds) (items_view (drop l.index l.item-items))) ≡ each (book_in l.kinds) (items_view l.items.items)
