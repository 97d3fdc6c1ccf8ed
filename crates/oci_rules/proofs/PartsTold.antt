-- What is told of the parts of a value, one part more.
use Rattle.std.proofs.Common.{◌≡◌, ℕ, ◌+◌, ◌<◌, ◌≤◌, List, [], ◌++◌, length, drop, slice_index_or, String, Global, string_bytes, sym, ap, ◌∙◌, subst, append_assoc, rules}
use Rattle.std.proofs.lemmas.List.{append-nil, drop_all}
use Rattle.serde_json.specs.Data.{Data, string, item, Members, member}
use Rattle.serde_json.specs.View.{view, items_view}
use Rattle.serde_json.specs.declared.value.Value as value
use Rattle.serde_json.specs.declared.value.Value.{Value, the_lemmas}
use Rattle.oci_schema.specs.Places.{under_index, under_name}
use Rattle.oci_rules.specs.Breaks.{Told}
use Rattle.oci_schema.specs.EachPart.{of_each, of_each_member}
use Rattle.oci_rules.specs.Listed.{of_each_name}
use Rattle.oci_rules.proofs.Steps.{cut_at}

pub view_string : (x : String Global) → view (value.String x) ≡ string (string_bytes x)
view_string x = search (rules, the_lemmas)

module _ (f : List ℕ → Data → List Told) (at : List ℕ) (old new : List Told) (place : List ℕ) where
  pub item_more : (v : Value) → new ≡ old ++ f place (view v) → (i : ℕ) (vs us : List Value) → vs ≡ us → i < length vs → v ≡ slice_index_or vs i v → place ≡ under_index at i
      → new ++ of_each f at (i + 1) (items_view (drop (i + 1) us)) ≡ old ++ of_each f at i (items_view (drop i us))
  item_more v added i vs us same below is there =
      let rest = of_each f at (i + 1) (items_view (drop (i + 1) us)) in
      let cut : items_view (drop i us) ≡ item (view v) (items_view (drop (i + 1) us)) =
      subst (λ ws. items_view (drop i ws) ≡ item (view v) (items_view (drop (i + 1) ws))) same (ap items_view (cut_at vs i v below is)) in
      ap (λ ts. ts ++ rest) added ∙ append_assoc old (f place (view v)) rest ∙ ap (λ p. old ++ (f p (view v) ++ rest)) there
      ∙ ap (λ ds. old ++ of_each f at i ds) (sym cut)

  pub member_more : (d : Data) → new ≡ old ++ f place d → (k : List ℕ) (ms left : Members) → ms ≡ member k d left → place ≡ under_name at k
      → new ++ of_each_member f at left ≡ old ++ of_each_member f at ms
  member_more d added k ms left cut there =
      let rest = of_each_member f at left in
      ap (λ ts. ts ++ rest) added ∙ append_assoc old (f place d) rest ∙ ap (λ p. old ++ (f p d ++ rest)) there ∙ ap (λ es. old ++ of_each_member f at es) (sym cut)

  pub name_more : (x : Data) → new ≡ old ++ f place x → (k : List ℕ) → x ≡ string k → (d : Data) (ms left : Members) → ms ≡ member k d left → place ≡ under_name at k
      → new ++ of_each_name f at left ≡ old ++ of_each_name f at ms
  name_more x added k named d ms left cut there =
      let rest = of_each_name f at left in
      ap (λ ts. ts ++ rest) added ∙ append_assoc old (f place x) rest ∙ ap (λ p. old ++ (f p x ++ rest)) there ∙ ap (λ y. old ++ (f (under_name at k) y ++ rest)) named
      ∙ ap (λ es. old ++ of_each_name f at es) (sym cut)

pub no_item_more : (f : List ℕ → Data → List Told) (at : List ℕ) (old : List Told) (i : ℕ) (vs us : List Value) → vs ≡ us → length vs ≤ i
    → old ≡ old ++ of_each f at i (items_view (drop i us))
no_item_more f at old i vs us same end =
    let none : drop i us ≡ [] = subst (λ ws. drop i ws ≡ []) same (drop_all i vs end) in
    sym (ap (λ ws. old ++ of_each f at i (items_view ws)) none ∙ append-nil old)
