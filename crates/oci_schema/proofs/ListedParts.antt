-- What is reported of the parts of a value, one part more.
use Rattle.std.proofs.Common.{◌≡◌, ℕ, ◌+◌, ◌<◌, ◌≤◌, List, [], ◌++◌, length, drop, slice_index_or, sym, ap, ◌∙◌, subst, append_assoc}
use Rattle.std.proofs.lemmas.List.{append-nil}
use Rattle.serde_json.specs.Data.{Data, item, Members, member}
use Rattle.serde_json.specs.View.{view, items_view}
use Rattle.serde_json.specs.declared.value.Value.{Value}
use Rattle.oci_model.specs.Shape.{Shape}
use Rattle.oci_schema.specs.Shapes.{members_in}
use Rattle.oci_schema.specs.declared.record.Member.{Member}
use Rattle.oci_schema.specs.Places.{under_index, under_name}
use Rattle.oci_schema.specs.EachPart.{of_each, of_each_member}
use Rattle.oci_schema.specs.Violations.{Report, rows_violations, known_violations}
use Rattle.oci_schema.proofs.Moved.{past}
use Rattle.oci_schema.proofs.Steps.{items_left, members_left}

-- ---- items and entries, each at its place

module _ (f : List ℕ → Data → List Report) (at : List ℕ) (old new : List Report) (place : List ℕ) (v : Value) (added : new ≡ old ++ f place (view v)) where
  pub item_more : (i : ℕ) (vs us : List Value) → vs ≡ us → i < length vs → v ≡ slice_index_or vs i v → place ≡ under_index at i
      → new ++ of_each f at (i + 1) (items_view (drop (i + 1) us)) ≡ old ++ of_each f at i (items_view (drop i us))
  item_more i vs us same below is there =
      let rest = of_each f at (i + 1) (items_view (drop (i + 1) us)) in
      let cut : items_view (drop i us) ≡ item (view v) (items_view (drop (i + 1) us)) =
      subst (λ ws. items_view (drop i ws) ≡ item (view v) (items_view (drop (i + 1) ws))) same (items_left vs i v below is) in
      ap (λ rs. rs ++ rest) added ∙ append_assoc old (f place (view v)) rest ∙ ap (λ p. old ++ (f p (view v) ++ rest)) there
      ∙ ap (λ ds. old ++ of_each f at i ds) (sym cut)

  pub entry_more : (k : List ℕ) (ms left : Members) → ms ≡ member k (view v) left → place ≡ under_name at k
      → new ++ of_each_member f at left ≡ old ++ of_each_member f at ms
  entry_more k ms left cut there =
      let rest = of_each_member f at left in
      ap (λ rs. rs ++ rest) added ∙ append_assoc old (f place (view v)) rest ∙ ap (λ p. old ++ (f p (view v) ++ rest)) there
      ∙ ap (λ es. old ++ of_each_member f at es) (sym cut)

pub no_item_more : (f : List ℕ → Data → List Report) (at : List ℕ) (old : List Report) (i : ℕ) (vs us : List Value) → vs ≡ us → length vs ≤ i
    → old ≡ old ++ of_each f at i (items_view (drop i us))
no_item_more f at old i vs us same end =
    let none : drop i us ≡ [] = subst (λ ws. drop i ws ≡ []) same (past vs i end) in
    sym (ap (λ ws. old ++ of_each f at i (items_view ws)) none ∙ append-nil old)

-- ---- members of records

pub member_more : (f : ℕ → Shape) (ms : List Member) (i : ℕ) (w : Member) (at : List ℕ) (d : Data) (old new : List Report) → i < length ms
    → new ≡ old ++ known_violations f (slice_index_or ms i w) at d
    → new ++ rows_violations (members_in f (drop (i + 1) ms)) at d ≡ old ++ rows_violations (members_in f (drop i ms)) at d
member_more f ms i w at d old new below added =
    let rest = rows_violations (members_in f (drop (i + 1) ms)) at d in
    ap (λ rs. rs ++ rest) added ∙ append_assoc old (known_violations f (slice_index_or ms i w) at d) rest
    ∙ ap (λ rs. old ++ rows_violations rs at d) (sym (members_left f ms i w below))

pub no_member_more : (f : ℕ → Shape) (ms : List Member) (i : ℕ) (at : List ℕ) (d : Data) (old : List Report) → length ms ≤ i
    → old ≡ old ++ rows_violations (members_in f (drop i ms)) at d
no_member_more f ms i at d old end = sym (ap (λ rs. old ++ rows_violations (members_in f rs) at d) (past ms i end) ∙ append-nil old)
