-- The items of arrays.
use Rattle.std.proofs.Common.{◌≡◌, ℕ, suc, arith, false, List, [], ◌∷◌, length, map, Bool, not, Option, Some, refl, sym, ap, ◌∙◌}
use Rattle.std.specs.Prelude.{◌==◌, unwrap_or}
use Rattle.std.proofs.lemmas.Bool.Decides.{nat_tests}
use Rattle.serde_json.specs.Data.{Items, no_items}
use Rattle.serde_json.specs.View.{view, items_view}
use Rattle.serde_json.specs.declared.value.Value.{Value}
use Rattle.oci_layout.specs.Claims.{list_of, has_some, claim_of}
use Rattle.oci_layout.specs.declared.claim.Role.{Role}

pub list_of-items_view : (vs : List Value) → list_of (items_view vs) ≡ map view vs
list_of-items_view [] = refl
list_of-items_view (v ∷ vs) = ap (λ ds. view v ∷ ds) (list_of-items_view vs)

not_zero : (n : ℕ) → (suc n == 0) ≡ false
not_zero n = grind (arith, nat_tests)

not_empty : (vs : List Value) → not (length vs == 0) ≡ has_some (list_of (items_view vs))
not_empty [] = refl
not_empty (v ∷ vs) = ap not (not_zero (length vs))

-- whether there is an item
pub some_item : (vs : List Value) (o : Option Items) (b : Bool) (n : ℕ) → Some (items_view vs) ≡ o → n ≡ length vs → b ≡ (n == 0)
    → not b ≡ has_some (list_of (unwrap_or o no_items))
some_item vs o b n found counted e =
    ap not e ∙ ap (λ k. not (k == 0)) counted ∙ not_empty vs ∙ ap (λ i. has_some (list_of (unwrap_or i no_items))) found

each : (role : Role) (vs : List Value) → map (λ v. claim_of role (view v)) vs ≡ map (claim_of role) (map view vs)
each role [] = refl
each role (v ∷ vs) = ap (λ cs. claim_of role (view v) ∷ cs) (each role vs)

-- what the items claim
pub items_claim : (role : Role) (vs : List Value) (o : Option Items) → Some (items_view vs) ≡ o
    → map (λ v. claim_of role (view v)) vs ≡ map (claim_of role) (list_of (unwrap_or o no_items))
items_claim role vs o found =
    each role vs ∙ ap (map (claim_of role)) (sym (list_of-items_view vs)) ∙ ap (λ i. map (claim_of role) (list_of (unwrap_or i no_items))) found

pub items_seen : (vs : List Value) (o : Option Items) → Some (items_view vs) ≡ o → map view vs ≡ list_of (unwrap_or o no_items)
items_seen vs o found = sym (list_of-items_view vs) ∙ ap (λ i. list_of (unwrap_or i no_items)) found
