-- No member that is null matters to the rules of a book in a document that its schema allows, but to two.
use Rattle.std.proofs.Common.{◌≡◌, List, [], ◌∷◌, Bool, true, false, ◌&&◌, not, Option, Some, None, refl, sym, subst, inl, inr, true≢false}
use Rattle.std.specs.List.{Contains, list_all}
use Rattle.std.specs.Prelude.{◌⊎◌}
use Rattle.std.proofs.lemmas.List.Elements.{Contains-append_cases}
use Rattle.serde_json.specs.Data.{Data}
use Rattle.oci_model.specs.Means.{Means}
use Rattle.oci_model.specs.Plain.{Plain}
use Rattle.oci_model.specs.Shape.{Shape}
use Rattle.oci_schema.specs.Leads.{IsOrderly}
use Rattle.oci_schema.proofs.EachPart.{nothing_in, one_in}
use Rattle.oci_schemas.specs.Kinds.{shape_of}
use Rattle.oci_schemas.specs.declared.kind.Kind.{Kind}
use Rattle.oci_schemas.specs.declared.kind.Kind.TheVariants.{Manifest, Index, Config, Artifact, Layout, Descriptor, Error, Repositories, Tags, Reference, Spec, State, ProcessState, Features}
use Rattle.oci_rules.specs.Listed.{all_broken}
use Rattle.oci_rules.specs.Nulls.{LeavesOutNulls, AsksOfNull, MeetsNull, looks_at_values, asks_of_values}
use Rattle.oci_rules.specs.Rules.{Platform, Test, not_null, not_empty, length_at_most, Place, here, under, each_item, each_member, each_name, if_so, Rule}
use Rattle.oci_rules.proofs.NullPlaces.{same, meets_none, both}
use Rattle.oci_rule_books.specs.Nulls.{may_hold_null, asks_safely, is_safe, unminding}
use Rattle.oci_rule_books.specs.Stands.{under_shape, item_shape, each_shape}
use Rattle.oci_rule_books.proofs.NullsInShapes.{IsOf, under_means, item_means, each_means, holds_none}

no_null : (b : Bool) → not b ≡ true → b ≡ false
no_null true e = absurd (true≢false (sym e))
no_null false e = refl

asks_none : (t : Test) (s : Shape) (d : Data) → IsOf (Some s) d → asks_safely t s ≡ true → AsksOfNull t d → ⊥
asks_none (not_null name) s d is safe asks = true≢false (sym safe)
asks_none not_empty s d is safe asks = holds_none s d is (no_null (may_hold_null s) safe) asks
asks_none (length_at_most most) s d is safe asks = holds_none s d is (no_null (may_hold_null s) safe) asks
asks_none _ s d is safe asks = asks

static : (root : Data) (p : Place) (t : Test) (d : Data) → (looks_at_values p && asks_of_values t) ≡ true → MeetsNull root p t d → ⊥
static root p t d safe meets = let (looks, asks) = both (looks_at_values p) (asks_of_values t) safe in meets_none root p t d looks asks meets

safe_meets : (root : Data) (p : Place) (t : Test) (o : Option Shape) (d : Data) → IsOf o d → is_safe p t o ≡ true → MeetsNull root p t d → ⊥
safe_meets root here t None d is safe meets = static root here t d safe meets
safe_meets root here t (Some s) d is safe meets = asks_none t s d is safe meets
safe_meets root (under name p) t None d is safe meets = static root (under name p) t d safe meets
safe_meets root (under name p) t (Some s) d is safe meets = let (c, found, rest) = meets in safe_meets root p t (under_shape name s) c (under_means s name d c is found) safe rest
safe_meets root (each_item p) t None d is safe meets = static root (each_item p) t d safe meets
safe_meets root (each_item p) t (Some s) d is safe meets =
    let (i, c, has, rest) = meets in
    let (ds, array, found) = has in
    safe_meets root p t (item_shape s) c (item_means s d c ds i is array found) safe rest
safe_meets root (each_member p) t None d is safe meets = static root (each_member p) t d safe meets
safe_meets root (each_member p) t (Some s) d is safe meets =
    let (name, c, has, rest) = meets in
    let (ms, members, found) = has in
    safe_meets root p t (each_shape s) c (each_means s name d c ms is members found) safe rest
safe_meets root (each_name p) t None d is safe meets = static root (each_name p) t d safe meets
safe_meets root (each_name p) t (Some s) d is safe meets = holds_none s d is (no_null (may_hold_null s) safe) meets
safe_meets root (if_so c p) t None d is safe meets = static root (if_so c p) t d safe meets
safe_meets root (if_so c p) t (Some s) d is safe meets = safe_meets root p t (Some s) d is safe meets.1

-- each rule but the two is safe in its kind's shape
all_safe : (kind : Kind) → list_all (λ r. is_safe r.place r.test (Some (shape_of kind))) (unminding kind) ≡ true
all_safe Manifest = refl
all_safe Index = refl
all_safe Config = refl
all_safe Artifact = refl
all_safe Layout = refl
all_safe Descriptor = refl
all_safe Error = refl
all_safe Repositories = refl
all_safe Tags = refl
all_safe Reference = refl
all_safe Spec = refl
all_safe State = refl
all_safe ProcessState = refl
all_safe Features = refl

one_safe : (p : Rule → Bool) (rs : List Rule) (r : Rule) → list_all p rs ≡ true → Contains rs r → p r ≡ true
one_safe p [] r all has = nothing_in r has
one_safe p (q ∷ rs) r all has = cut (Contains-append_cases (q ∷ []) rs r has) (both (p q) (list_all p rs) all) (λ rest in_rest. one_safe p rs r rest in_rest)
  where
    cut : Contains (q ∷ []) r ⊎ Contains rs r → (p q ≡ true) × (list_all p rs ≡ true) → (list_all p rs ≡ true → Contains rs r → p r ≡ true) → p r ≡ true
    cut (inl first) so rest = subst (λ x. p x ≡ true) (one_in q r first) so.0
    cut (inr later) so rest = rest so.1 later

pub unminded : (kind : Kind) (platform : Platform) (d e : Data) (p : Plain) → IsOrderly d → Means (shape_of kind) d p → LeavesOutNulls d e
    → all_broken (unminding kind) platform d ≡ all_broken (unminding kind) platform e
unminded kind platform d e p order means out =
    same (unminding kind) platform d e order out
    (λ r has minds. safe_meets d r.place r.test (Some (shape_of kind)) d (p, means) (one_safe (λ q. is_safe q.place q.test (Some (shape_of kind))) (unminding kind) r (all_safe kind) has) minds)
