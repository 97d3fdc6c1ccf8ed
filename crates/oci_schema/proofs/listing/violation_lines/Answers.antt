use Rattle.std.proofs.Common.{◌≡◌, ℕ, ◌+◌, ◌<◌, List, [], ◌∷◌, ◌++◌, length, map, take, get_or, codes, string_bytes, sym, ap, ◌∙◌}
use Rattle.std.proofs.lemmas.List.{take_more, flat_map_more, map-append}
use Rattle.oci_schema.specs.Lines.{line, lines}
use Rattle.oci_schema.specs.Violations.{Report, reported}
use Rattle.oci_schema.specs.declared.violation.Violation.{Violation}
use Rattle.oci_schema.proofs.listing.violation_lines.Goals as goal

one_more : (found : List Violation) (i : ℕ) (x : Violation) → i < length found → x ≡ get_or found i x
    → lines (map reported (take i found)) ++ (line (reported x) ++ codes "\n") ≡ lines (map reported (take (i + 1) found))
one_more found i x less is =
    ap (λ (y : Violation). lines (map reported (take i found)) ++ (line (reported y) ++ codes "\n")) is
    ∙ flat_map_more (λ (r : Report). line r ++ codes "\n") [] (map reported (take i found)) (reported (get_or found i x))
    ∙ ap lines (sym (map-append reported (take i found) (get_or found i x ∷ [])))
    ∙ ap (λ (l : List Violation). lines (map reported l)) (sym (take_more found i x less))

pub loop-violation-preserved : goal.loop-violation-preserved
loop-violation-preserved c =
    let text = string_bytes c.loop-violation.text in
    let item = c.violation-item.result in
    c.in_ok-push_str.ensures.bytes ∙ ap (λ t. text ++ t) (c.as_str.ensures.value ∙ c.in_ok-line.ensures.ok)
    ∙ ap (λ t. t ++ (line (reported item) ++ codes "\n")) c.loop-violation.invariant
    ∙ one_more c.args.found.now c.loop-violation.violation-index item c.loop-violation-test.true c.violation-item.is
