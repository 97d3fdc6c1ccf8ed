-- What is added to a list of differences.
use Rattle.std.proofs.Common.{◌≡◌, ◌≤◌, ◌+◌, inl, inr, ℕ, zero, suc, List, [], length, false, true≢false, Option, Some, None, is_some, option_map, refl, sym, ap, ◌∙◌, subst, arith}
use Rattle.std.specs.Prelude.{◌↔◌}
use Rattle.oci_model.specs.Sizes.{size, items_size, members_size}
use Rattle.serde_json.specs.Data.{Data, array, object, Items, no_items, item, Members, member}
use Rattle.serde_json.specs.Find.{get, get_item}
use Rattle.oci_schema.specs.Places.{under_name, under_index}
use Rattle.oci_schema.specs.Leads.{Have, LeadsTo}
use Rattle.oci_diff.specs.declared.changes.Change.{Change}
use Rattle.oci_diff.specs.declared.changes.Difference.{Difference}
use Rattle.oci_diff.specs.Best.{IsStepOf}
use Rattle.oci_diff.specs.Differs.{HoldsAt, StandAt, AddsIf, LacksMember, IsAlone}
use Rattle.oci_diff.specs.Same.{AreSame}
use Rattle.oci_diff.specs.declared.aligned.Step.{Step}
use Rattle.oci_diff.specs.declared.aligned.Step.TheVariants.{First, Second}
use Rattle.oci_schema.proofs.Ways.{has as has_member}
use Rattle.oci_diff.proofs.Ways.{AreAmong, member_step, item_step}

-- one after the other
pub in_turn : (F : Data → Data → Type 0) (xs ys zs : List Difference) → AddsIf F xs ys → AddsIf F ys zs → AddsIf F xs zs
in_turn F xs ys zs f g a b holds so = g a b holds (f a b holds so)

-- the same of equal values
pub at_both : (d e x y : Data) (place : List ℕ) (xs ys : List Difference) → d ≡ x → e ≡ y → AddsIf (StandAt x y place) xs ys → AddsIf (StandAt d e place) xs ys
at_both d e x y place xs ys same0 same1 f a b holds so = f a b (subst (λ z. LeadsTo a place z) same0 holds.0, subst (λ z. LeadsTo b place z) same1 holds.1) so

pub both_parts : (d e x y : Data) (place : List ℕ) (xs ys zs : List Difference) → d ≡ x → e ≡ y → AddsIf (StandAt x e place) xs ys → AddsIf (StandAt d y place) ys zs → AddsIf (StandAt d e place) xs zs
both_parts d e x y place xs ys zs same0 same1 f g a b holds so =
    g a b (holds.0, subst (λ z. LeadsTo b place z) same1 holds.1) (f a b (subst (λ z. LeadsTo a place z) same0 holds.0, holds.1) so)

-- where a part is
pub leads_member : (root : Data) (ms : Members) (d : Data) (place under name : List ℕ) → under ≡ under_name place name → Have ms name d → LeadsTo root place (object ms) → LeadsTo root under d
leads_member root ms d place under name is have leads = subst (λ p. LeadsTo root p d) (sym is) (member_step root (object ms) d place name leads (ms, refl, have))

pub leads_item : (root : Data) (ds : Items) (d : Data) (place under : List ℕ) (i : ℕ) → under ≡ under_index place i → get_item i ds ≡ Some d → LeadsTo root place (array ds) → LeadsTo root under d
leads_item root ds d place under i is have leads = subst (λ p. LeadsTo root p d) (sym is) (item_step root (array ds) d place i leads (ds, refl, have))

-- a part of both
pub member_adds : (ms : Members) (d e c : Data) (place under name : List ℕ) (xs ys : List Difference) → under ≡ under_name place name → Have ms name d → get name e ≡ Some c
    → AddsIf (StandAt d c under) xs ys → AddsIf (StandAt (object ms) e place) xs ys
member_adds ms d e c place under name xs ys is have found f a b holds so =
    f a b
    (subst (λ p. LeadsTo a p d) (sym is) (member_step a (object ms) d place name holds.0 (ms, refl, have)), subst (λ p. LeadsTo b p c) (sym is) (member_step b e c place name holds.1 (has_member name e c found)))
    so

pub item_adds : (ds es : Items) (d c : Data) (place under : List ℕ) (i : ℕ) (xs ys : List Difference) → under ≡ under_index place i → get_item i ds ≡ Some d → get_item i es ≡ Some c
    → AddsIf (StandAt d c under) xs ys → AddsIf (StandAt (array ds) (array es) place) xs ys
item_adds ds es d c place under i xs ys is have found f a b holds so =
    f a b (leads_item a ds d place under i is have holds.0, leads_item b es c place under i is found holds.1) so

-- a part of one alone
pub lacks_member : (root e : Data) (place under name : List ℕ) → under ≡ under_name place name → get name e ≡ None → LeadsTo root place e → LacksMember root under
lacks_member root e place under name is none leads = (place, name, e, sym is, leads, none)

pub is_alone : (alone : ℕ → Step) (a b : Data) (ds es : Items) (place under : List ℕ) (i : ℕ) → under ≡ under_index place i → (AreSame (array ds) (array es) → ⊥) → IsStepOf ds es (alone i)
    → LeadsTo a place (array ds) → LeadsTo b place (array es) → IsAlone alone a b under
is_alone alone a b ds es place under i is differ step first second = (place, i, ds, es, sym is, first, second, differ, step)

-- from what is said of two values at a place to what is said of those that hold them
pub adds_by : (F G : Data → Data → Type 0) (xs ys : List Difference) → ((a b : Data) → G a b → F a b) → AddsIf F xs ys → AddsIf G xs ys
adds_by F G xs ys h f a b holds so = f a b (h a b holds) so

-- what is said of a part of one alone
pub new_item : (ds es : Items) (c : Data) (change : Change) (place under : List ℕ) (i : ℕ) (xs ys : List Difference) → ((a b : Data) → LeadsTo b under c → IsAlone Second a b under → HoldsAt a b under change)
    → under ≡ under_index place i → get_item i es ≡ Some c → (AreSame (array ds) (array es) → ⊥) → IsStepOf ds es (Second i) → AddsIf (λ a b. HoldsAt a b under change) xs ys → AddsIf (StandAt (array ds) (array es) place) xs ys
new_item ds es c change place under i xs ys says is have differ step f a b holds so =
    f a b (says a b (leads_item b es c place under i is have holds.1) (is_alone Second a b ds es place under i is differ step holds.0 holds.1)) so

pub old_item : (ds es : Items) (c : Data) (change : Change) (place under : List ℕ) (i : ℕ) (xs ys : List Difference) → ((a b : Data) → LeadsTo a under c → IsAlone First a b under → HoldsAt a b under change)
    → under ≡ under_index place i → get_item i ds ≡ Some c → (AreSame (array ds) (array es) → ⊥) → IsStepOf ds es (First i) → AddsIf (λ a b. HoldsAt a b under change) xs ys → AddsIf (StandAt (array ds) (array es) place) xs ys
old_item ds es c change place under i xs ys says is have differ step f a b holds so =
    f a b (says a b (leads_item a ds c place under i is have holds.0) (is_alone First a b ds es place under i is differ step holds.0 holds.1)) so

pub new_member : (d : Data) (ms : Members) (c : Data) (change : Change) (place under name : List ℕ) (xs ys : List Difference) → ((a b : Data) → LeadsTo b under c → LacksMember a under → HoldsAt a b under change)
    → under ≡ under_name place name → Have ms name c → get name d ≡ None → AddsIf (λ a b. HoldsAt a b under change) xs ys → AddsIf (StandAt d (object ms) place) xs ys
new_member d ms c change place under name xs ys says is have none f a b holds so =
    f a b (says a b (leads_member b ms c place under name is have holds.1) (lacks_member a d place under name is none holds.0)) so

pub old_member : (ms : Members) (e c : Data) (change : Change) (place under name : List ℕ) (xs ys : List Difference) → ((a b : Data) → LeadsTo a under c → LacksMember b under → HoldsAt a b under change)
    → under ≡ under_name place name → Have ms name c → get name e ≡ None → AddsIf (λ a b. HoldsAt a b under change) xs ys → AddsIf (StandAt (object ms) e place) xs ys
old_member ms e c change place under name xs ys says is have none f a b holds so =
    f a b (says a b (leads_member a ms c place under name is have holds.0) (lacks_member b e place under name is none holds.1)) so

-- ---- what a look-up found

pub absent_of : {A B : Type 0} (f : A → B) (r : Option A) (o : Option B) → option_map f r ≡ o → is_some r ≡ false → o ≡ None
absent_of f None o e n = sym e
absent_of f (Some x) o e n = absurd (true≢false n)

pub within_size : (ds : Items) (i : ℕ) (d : Data) → get_item i ds ≡ Some d → size d ≤ items_size ds
within_size no_items i d e = cc
within_size (item c ds) zero d e = let same : c ≡ d = cc in omega (arith, ap size same)
within_size (item c ds) (suc i) d e = omega (arith, within_size ds i d e)

-- none is found exactly if the values are the same
pub none_found : (P : Type 0) (xs ys : List Difference) → xs ≡ [] → (P → ys ≡ xs) → (length ys ≡ length xs → P) → (ys ≡ []) ↔ P
none_found P xs ys start same other = ((λ none. other (ap (λ (z : List Difference). length z) (none ∙ sym start))), (λ s. same s ∙ start))

-- ---- members that are still to be looked at

pub first_have : (ms rest all : Members) (k q : List ℕ) (d : Data) → ms ≡ member k d rest → AreAmong ms all → q ≡ k → Have all q d
first_have ms rest all k q d split among is = subst (λ n. Have all n d) (sym is) (among k d (subst (λ m. Have m k d) (sym split) (inl (refl, refl))))

pub rest_among : (ms rest all : Members) (k : List ℕ) (d : Data) → ms ≡ member k d rest → AreAmong ms all → AreAmong rest all
rest_among ms rest all k d split among name c h = among name c (subst (λ m. Have m name c) (sym split) (inr h))

pub rest_smaller : (ms rest : Members) (k : List ℕ) (d : Data) (n : ℕ) → ms ≡ member k d rest → members_size ms ≤ n → members_size rest ≤ n
rest_smaller ms rest k d n split h = let e : members_size ms ≡ size d + members_size rest = ap members_size split in omega (arith, e, h)
