use Rattle.std.proofs.Common.{◌≡◌, drop}
use Rattle.toml.specs.View.{items_view}
use Rattle.toml.specs.Data.{as_str}
use Rattle.oci_rules.specs.Tables.{texts_of}
use Rattle.oci_policies.specs.Values.{behind, each}
use Rattle.oci_policies.proofs.values.each_text.Given as goal

-- what was read, and what is still to be read, is all
abbrev pub invariant-loop-item : goal.invariant-loop-item
invariant-loop-item l = behind (texts_of l.found.items) (each as_str (items_view (drop l.item-index l.item-items))) ≡ each as_str (items_view l.items.items)
