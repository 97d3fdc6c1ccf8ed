-- Findings that are made of violations.
use Rattle.std.proofs.Common.{◌≡◌, List, [], ◌∷◌, map, refl, ap, ◌∙◌}
use Rattle.std.specs.Prelude.{◌↔◌}
use Rattle.oci_schema.specs.declared.violation.Violation.{Violation}
use Rattle.oci_schema.specs.Violations.{Report, reported}
use Rattle.oci_findings.specs.declared.finding.Finding.{Finding}
use Rattle.oci_findings.specs.Findings.{told, told_of, as_told}

composed : (vs : List Violation) → map told_of vs ≡ map as_told (map reported vs)
composed [] = refl
composed (v ∷ vs) = ap (λ q. told_of v ∷ q) (composed vs)

pub all_told : (fs : List Finding) (vs : List Violation) (reports : List Report) → map told fs ≡ map told_of vs → map reported vs ≡ reports → map told fs ≡ map as_told reports
all_told fs vs reports e r = e ∙ composed vs ∙ ap (map as_told) r

pub none_told : (fs : List Finding) (vs : List Violation) (P : Type 0) → map told fs ≡ map told_of vs → (vs ≡ []) ↔ P → (fs ≡ []) ↔ P
none_told [] [] P e h = ((λ none. h.0 refl), (λ p. refl))
none_told [] (v ∷ vs) P e h = cc
none_told (f ∷ fs) [] P e h = cc
none_told (f ∷ fs) (v ∷ vs) P e h = ((λ none. cc), (λ p. let no = h.1 p in cc))
