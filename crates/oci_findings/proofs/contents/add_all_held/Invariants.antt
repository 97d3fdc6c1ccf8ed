use Rattle.std.proofs.Common.{◌≡◌, ◌++◌, take, map}
use Rattle.oci_findings.specs.Contents.{fact, held_fact}
use Rattle.oci_findings.proofs.contents.add_all_held.Given as goal

abbrev pub invariant-loop-held : goal.invariant-loop-held
invariant-loop-held l = map fact l.found.items ≡ map fact l.initial.found.items ++ map held_fact (take l.held-index l.held-items)
