-- Members that are taken out of an object.
use Rattle.std.proofs.Common.{◌≡◌, ℕ, List, [], ◌∷◌, Bool, true, false, cond, Option, Some, option_map, string_bytes, bytes_eq, nat_cmp, is_eq, refl, sym, ap, ◌∙◌, true≢false}
use Rattle.std.specs.Cmp.Lexicographic.{slice_cmp}
use Rattle.std.specs.Map.{lookup, remove_entry}
use Rattle.std.specs.BTreeMap.{is_at}
use Rattle.std.specs.Ordering.{match_ordering}
use Rattle.std.proofs.lemmas.Map.Text.{is_eq-slice_cmp}
use Rattle.std.proofs.lemmas.Slice.Eq.{bytes_eq-Decides}
use Rattle.serde_json.specs.Find.{get_member}
use Rattle.serde_json.specs.View.{view, members_view}
use Rattle.serde_json.proofs.Views.{Entry, view-lookup, member_later}
use Rattle.serde_json.specs.declared.value.Value.{Value}

pub found : (name : List ℕ) (es : List Entry) (r : Option Value) → r ≡ lookup (is_at (λ k. slice_cmp nat_cmp name (string_bytes k))) es → option_map view r ≡ get_member name (members_view es)
found name es r e = ap (option_map view) e ∙ view-lookup name es

differ : (s t : List ℕ) → bytes_eq s t ≡ false → s ≡ t → ⊥
differ s t e same = true≢false (sym ((bytes_eq-Decides s t).1 same) ∙ e)

kept_by : (name q : List ℕ) (e : Entry) (es rest : List Entry) (b : Bool) → bytes_eq q name ≡ false → b ≡ bytes_eq name (string_bytes e.0)
    → get_member q (members_view rest) ≡ get_member q (members_view es) → get_member q (members_view (cond b es (e ∷ rest))) ≡ get_member q (members_view (e ∷ es))
kept_by name q e es rest true apart is later =
    let same : name ≡ string_bytes e.0 = (bytes_eq-Decides name (string_bytes e.0)).0 (sym is) in
    sym (member_later q e es (λ h. differ q name apart (h ∙ sym same)))
kept_by name q e es rest false apart is later = ap (λ r. match_ordering (slice_cmp nat_cmp q (string_bytes e.0)) r (Some (view e.1)) r) later

kept : (name q : List ℕ) (es : List Entry) → bytes_eq q name ≡ false
    → get_member q (members_view (remove_entry (is_at (λ k. slice_cmp nat_cmp name (string_bytes k))) es)) ≡ get_member q (members_view es)
kept name q [] apart = refl
kept name q (e ∷ es) apart =
    kept_by name q e es (remove_entry (is_at (λ k. slice_cmp nat_cmp name (string_bytes k))) es) (is_eq (slice_cmp nat_cmp name (string_bytes e.0))) apart
    (is_eq-slice_cmp name (string_bytes e.0)) (kept name q es apart)

pub others : (name : List ℕ) (es fs : List Entry) (q : List ℕ) → fs ≡ remove_entry (is_at (λ k. slice_cmp nat_cmp name (string_bytes k))) es → bytes_eq q name ≡ false
    → get_member q (members_view fs) ≡ get_member q (members_view es)
others name es fs q e apart = ap (λ gs. get_member q (members_view gs)) e ∙ kept name q es apart
