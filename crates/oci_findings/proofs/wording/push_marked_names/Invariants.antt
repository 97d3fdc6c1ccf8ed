use Rattle.std.proofs.Common.{◌≡◌, ◌++◌, codes, drop, map}
use Rattle.std.specs.Prelude.{string_bytes}
use Rattle.oci_findings.specs.Wording.{marked, mark_text}
use Rattle.oci_findings.proofs.wording.push_marked_names.Given as goal

abbrev pub invariant-loop-name : goal.invariant-loop-name
invariant-loop-name l =
    string_bytes l.text ++ marked (mark_text l.first) (map (λ name. name.now) (drop l.name-index l.names)) ≡ string_bytes l.initial.text ++ marked (codes " ") (map (λ name. name.now) l.names)
