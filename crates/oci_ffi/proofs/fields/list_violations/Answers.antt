use Rattle.std.proofs.Common.{◌≡◌, ℕ, ◌+◌, ◌<◌, List, [], ◌∷◌, ◌++◌, length, map, take, get_or, sym, ap, ◌∙◌}
use Rattle.std.proofs.lemmas.List.{take_more, flat_map_more, map-append}
use Rattle.oci_schema.specs.Violations.{reported}
use Rattle.oci_schema.specs.declared.violation.Violation.{Violation}
use Rattle.oci_ffi.specs.Fields.{violation_fields, violation_list}
use Rattle.oci_ffi.proofs.fields.list_violations.Goals as goal

one_more : (found : List Violation) (i : ℕ) (x : Violation) → i < length found → x ≡ get_or found i x
    → violation_list (map reported (take i found)) ++ violation_fields (reported x) ≡ violation_list (map reported (take (i + 1) found))
one_more found i x less is =
    ap (λ (y : Violation). violation_list (map reported (take i found)) ++ violation_fields (reported y)) is
    ∙ flat_map_more violation_fields [] (map reported (take i found)) (reported (get_or found i x))
    ∙ ap violation_list (sym (map-append reported (take i found) (get_or found i x ∷ [])))
    ∙ ap (λ (l : List Violation). violation_list (map reported l)) (sym (take_more found i x less))

pub loop-violation-preserved : goal.loop-violation-preserved
loop-violation-preserved c =
    let item = c.violation-item.result in
    c.in_ok-push_violation.ensures ∙ ap (λ t. t ++ violation_fields (reported item)) c.loop-violation.invariant
    ∙ one_more c.args.found.now c.loop-violation.violation-index item c.loop-violation-test.true c.violation-item.is
