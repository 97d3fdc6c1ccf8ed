-- none of the folders so far is one of the set
use Rattle.std.proofs.Common.{◌≡◌}
use Rattle.std.specs.BTreeSet.{contains_text}
use Rattle.oci_layers.specs.Decided.{are_clear}
use Rattle.oci_layers.proofs.kept.is_clear.Given as goal

abbrev pub invariant-folders : goal.invariant-folders
invariant-folders l = l.clear ≡ are_clear (contains_text l.set) l.path l.at
