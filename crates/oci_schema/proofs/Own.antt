-- The members of a record's own object, and those of its parts.
use Rattle.std.proofs.Common.{◌≡◌, ℕ, List, [], ◌∷◌, ◌++◌, refl, sym, ap, ◌∙◌, append_assoc}
use Rattle.serde_json.specs.Data.{Data}
use Rattle.serde_json.specs.Find.{as_object}
use Rattle.oci_model.specs.Shape.{Shape, rows, names, with_second}
use Rattle.oci_schema.specs.Shapes.{members_in, alias_of}
use Rattle.oci_schema.specs.declared.record.Member.{Member}
use Rattle.oci_schema.specs.Reported.{names_in}
use Rattle.oci_schema.specs.Unknown.{Report, unlisted_in, unknown, unknown_in}

names_same : (f : ℕ → Shape) (ms : List Member) → names (members_in f ms) ≡ names_in ms
names_same f [] = refl
names_same f (m ∷ ms) = ap (λ ns. m.name.now ∷ with_second (alias_of m.alias) ns) (names_same f ms)

pub record_more : (s : Shape) (f : ℕ → Shape) (ms : List Member) (at : List ℕ) (d : Data) (f0 f1 f2 : List Report) → s ≡ rows (members_in f ms) → f1 ≡ f0 ++ unlisted_in (names_in ms) at (as_object d)
    → f2 ≡ f1 ++ unknown_in (members_in f ms) at d → f2 ≡ f0 ++ unknown s at d
record_more s f ms at d f0 f1 f2 is e h =
    let own : List Report = unlisted_in (names_in ms) at (as_object d) in
    let rest : List Report = unknown_in (members_in f ms) at d in
    let whole : unknown s at d ≡ own ++ rest = ap (λ z. unknown z at d) is ∙ ap (λ ns. unlisted_in ns at (as_object d) ++ rest) (names_same f ms) in
    h ∙ ap (λ z. z ++ rest) e ∙ append_assoc f0 own rest ∙ ap (λ z. f0 ++ z) (sym whole)
