-- Arrays of capabilities, item by item.
use Rattle.std.proofs.Common.{◌≡◌, ℕ, zero, suc, ◌+◌, ◌<◌, List, [], ◌∷◌, ◌++◌, length, get_or, take, map, Bool, true, false, cond, Some, None, refl, sym, subst, ap, ◌∙◌, inl, inr, arith, true≢false, String, Global, string_bytes, rules}
use Rattle.std.specs.Prelude.{◌↔◌, ◌⊎◌, IsTrue}
use Rattle.std.proofs.lemmas.List.{take_more}
use Rattle.std.specs.HashSet.{HashSet, contains, Updates}
use Rattle.serde_json.specs.Data.{Data, Items, item, string}
use Rattle.serde_json.specs.Find.{as_str, as_array}
use Rattle.serde_json.specs.View.{view, items_view}
use Rattle.serde_json.specs.declared.value.Value.{Value, the_lemmas}
use Rattle.serde_json.specs.declared.value.Value as value
use denote.Enum.Bare.{same_true, true_same}
use Rattle.oci_base.specs.Names.{is_listed}
use Rattle.oci_model.specs.Variants.{listed}
use Rattle.oci_text.specs.declared.capability.Capability.{Capability}
use Rattle.oci_text.specs.declared.capability.Capability.TheVariants.{AuditWrite, Kill, NetBindService}
use Rattle.oci_text.specs.contracts.capability.Capability.{the_type}
use Rattle.oci_text.specs.Capability.{capability_name, capability_table, all_capability, capability_back, capability_same}
use Rattle.oci_base.specs.Capabilities.{CapText, cap}
use Rattle.oci_text.proofs.CapTexts.{one_name}
use Rattle.oci_model.specs.Plain as plain
use Rattle.oci_model.specs.Shape.{cap_set}
use Rattle.oci_model.specs.Means.{Means, IsCapability, AreCapabilities, SomeIs, IsSetOf}
use Rattle.oci_model.specs.Refused.{IsRefused}
use Rattle.oci_model.specs.Value.{capability_texts}
use Rattle.oci_text.specs.CapabilitySets.{capability_eq, set_plain, default_set, each_same}

pub no_capability : (d : Data) (n : List ℕ) → None ≡ as_str d → IsCapability d n → ⊥
no_capability d n e m = let k = e ∙ m.1 in cc

pub not_of_text : (t : List ℕ) (d : Data) (n : List ℕ) → Some t ≡ as_str d → ((m : List ℕ) → IsTrue (is_listed capability_table m) → CapText t m → ⊥) → IsTrue (is_listed capability_table n) → IsCapability d n → ⊥
not_of_text t d n e none is m =
    let same : m.0 ≡ t = (let k = e ∙ m.1 in cc) in
    none n is (subst (λ u. CapText u n) same m.2)

pub no_array : (d : Data) → None ≡ as_array d → IsRefused (cap_set capability_table) d
unfolding IsRefused
no_array d e p m = let k = e ∙ m.2 in cc

-- ---- an item that is none

none_at : (vs : List Value) (i : ℕ) (v : Value) → i < length vs → v ≡ get_or vs i v → ((n : List ℕ) → IsTrue (is_listed capability_table n) → IsCapability (view v) n → ⊥) → AreCapabilities capability_table (items_view vs) → ⊥
none_at [] i v below e none h = absurd (omega arith)
none_at (w ∷ vs) zero v below e none h = none h.0.0 h.0.1 (subst (λ y. IsCapability (view y) h.0.0) (sym e) h.0.2)
none_at (w ∷ vs) (suc i) v below e none h = none_at vs i v (omega arith) e none h.1

pub set_refused : (d : Data) (items vs : List Value) (i : ℕ) (v : Value) → Some (items_view items) ≡ as_array d → vs ≡ items → i < length vs → v ≡ get_or vs i v
    → ((n : List ℕ) → IsTrue (is_listed capability_table n) → IsCapability (view v) n → ⊥) → IsRefused (cap_set capability_table) d
unfolding IsRefused
set_refused d items vs i v found is below at none p m =
    let seen : m.0 ≡ items_view items = (let k = found ∙ m.2 in cc) in
    none_at vs i v below at none (subst (AreCapabilities capability_table) (seen ∙ ap items_view (sym is)) m.4)

-- ---- one more item

is_listed_name : (c : Capability) → IsTrue (is_listed capability_table (capability_name c))
is_listed_name = listed capability_name all_capability capability_back

pub are_more : (vs : List Value) (v : Value) (c : Capability) → AreCapabilities capability_table (items_view vs) → IsCapability (view v) (capability_name c) → AreCapabilities capability_table (items_view (vs ++ v ∷ []))
are_more [] v c h k = ((capability_name c, is_listed_name c, k), tt)
are_more (w ∷ vs) v c h k = (h.0, are_more vs v c h.1 k)

some_before : (vs : List Value) (v : Value) (n : List ℕ) → SomeIs (items_view vs) n → SomeIs (items_view (vs ++ v ∷ [])) n
some_before [] v n h = absurd h
some_before (w ∷ vs) v n (inl h) = inl h
some_before (w ∷ vs) v n (inr h) = inr (some_before vs v n h)

some_last : (vs : List Value) (v : Value) (n : List ℕ) → IsCapability (view v) n → SomeIs (items_view (vs ++ v ∷ [])) n
some_last [] v n h = inl h
some_last (w ∷ vs) v n h = inr (some_last vs v n h)

some_split : (vs : List Value) (v : Value) (n : List ℕ) → SomeIs (items_view (vs ++ v ∷ [])) n → SomeIs (items_view vs) n ⊎ IsCapability (view v) n
some_split [] v n (inl h) = inr h
some_split [] v n (inr h) = absurd h
some_split (w ∷ vs) v n (inl h) = inl (inl h)
some_split (w ∷ vs) v n (inr h) = later (some_split vs v n h)
  where
    later : SomeIs (items_view vs) n ⊎ IsCapability (view v) n → SomeIs (items_view (w ∷ vs)) n ⊎ IsCapability (view v) n
    later (inl k) = inl (inr k)
    later (inr k) = inr k

-- one capability to a value
one_of : (d : Data) (b c : Capability) → IsCapability d (capability_name b) → IsCapability d (capability_name c) → b ≡ c
one_of d b c (t, e, h) (u, f, k) =
    let same : t ≡ u = (let j = sym e ∙ f in cc) in
    same_true the_type tt b c ((capability_same b c).1 (one_name u (capability_name b) (capability_name c) (is_listed_name b) (is_listed_name c) (subst (λ x. CapText x (capability_name b)) same h) k))

module _ {S : Type 0} where
  -- a capability is in the set exactly if an item is its text
  pub record IsSetOfItems (vs : List Value) (s : HashSet Capability S) : Type 0 where
    pub is : (c : Capability) → (contains capability_eq s c ≡ true) ↔ SomeIs (items_view vs) (capability_name c)

  pub set_more : (vs : List Value) (v : Value) (s n : HashSet Capability S) (k : Capability) → IsSetOfItems vs s → IsCapability (view v) (capability_name k) → Updates capability_eq s n k true → IsSetOfItems (vs ++ v ∷ []) n
  set_more vs v s n k h is up = record {
    is = λ c. (
      (λ e. there c (capability_eq k c) refl (sym (up.0 c) ∙ e)),
      (λ m. up.0 c ∙ back c (capability_eq k c) refl (some_split vs v (capability_name c) m)),
    );
  }
    where
      there : (c : Capability) (b : Bool) → capability_eq k c ≡ b → cond b true (contains capability_eq s c) ≡ true → SomeIs (items_view (vs ++ v ∷ [])) (capability_name c)
      there c true e j = some_last vs v (capability_name c) (subst (λ x. IsCapability (view v) (capability_name x)) (same_true the_type tt k c e) is)
      there c false e j = some_before vs v (capability_name c) ((h.is c).0 j)

      back : (c : Capability) (b : Bool) → capability_eq k c ≡ b → SomeIs (items_view vs) (capability_name c) ⊎ IsCapability (view v) (capability_name c) → cond b true (contains capability_eq s c) ≡ true
      back c true e m = refl
      back c false e (inl m) = (h.is c).1 m
      back c false e (inr m) = absurd (true≢false (sym (true_same the_type k c (one_of (view v) k c is m)) ∙ e))

  set_of : (cs : List Capability) (ds : Items) (s : HashSet Capability S) → ((c : Capability) → (contains capability_eq s c ≡ true) ↔ SomeIs ds (capability_name c)) → IsSetOf (map capability_name cs) ds (map (contains capability_eq s) cs)
  set_of [] ds s h = tt
  set_of (c ∷ cs) ds s h = (h c, set_of cs ds s h)

  pub set_means : (vs : List Value) (s : HashSet Capability S) (d : Data) → Some (items_view vs) ≡ as_array d → AreCapabilities capability_table (items_view vs) → IsSetOfItems vs s → Means (cap_set capability_table) d (set_plain s)
  set_means vs s d found are h = (items_view vs, map (contains capability_eq s) all_capability, sym found, refl, are, set_of all_capability (items_view vs) s h.is)

  pub set_of_none : (s : HashSet Capability S) → s.keys ≡ [] → IsSetOfItems [] s
  set_of_none s e = record { is = λ c. ((λ j. absurd (true≢false (sym j ∙ nothing c))), (λ j. absurd j)) }
    where
      nothing : (c : Capability) → contains capability_eq s c ≡ false
      nothing c = rw e refl

-- ---- the texts of a set

module _ (p : Capability → Bool) where
  pub texts_more : (cs : List Capability) (ws : List Value) (c : Capability) (w : Value) → items_view ws ≡ capability_texts (map capability_name cs) (map p cs) → p c ≡ true → view w ≡ string (cap ++ capability_name c)
      → items_view (ws ++ w ∷ []) ≡ capability_texts (map capability_name (cs ++ c ∷ [])) (map p (cs ++ c ∷ []))
  texts_more [] [] c w e is seen = rw (is, seen) refl
  texts_more [] (v ∷ ws) c w e is seen = cc
  texts_more (b ∷ cs) ws c w e is seen = here (p b) ws e (λ us k. texts_more cs us c w k is seen)
    where
      here : (q : Bool) (us : List Value) → items_view us ≡ capability_texts (capability_name b ∷ map capability_name cs) (q ∷ map p cs)
          → ((xs : List Value) → items_view xs ≡ capability_texts (map capability_name cs) (map p cs) → items_view (xs ++ w ∷ []) ≡ capability_texts (map capability_name (cs ++ c ∷ [])) (map p (cs ++ c ∷ [])))
          → items_view (us ++ w ∷ []) ≡ capability_texts (capability_name b ∷ map capability_name (cs ++ c ∷ [])) (q ∷ map p (cs ++ c ∷ []))
      here true [] k later = cc
      here true (u ∷ us) k later = let first : view u ≡ string (cap ++ capability_name b) = cc in let rest = later us (cc) in cc
      here false us k later = later us k

  pub texts_same : (cs : List Capability) (c : Capability) → p c ≡ false → capability_texts (map capability_name (cs ++ c ∷ [])) (map p (cs ++ c ∷ [])) ≡ capability_texts (map capability_name cs) (map p cs)
  texts_same [] c is = rw is refl
  texts_same (b ∷ cs) c is = here (p b) (texts_same cs c is)
    where
      here : (q : Bool) → capability_texts (map capability_name (cs ++ c ∷ [])) (map p (cs ++ c ∷ [])) ≡ capability_texts (map capability_name cs) (map p cs)
          → capability_texts (capability_name b ∷ map capability_name (cs ++ c ∷ [])) (q ∷ map p (cs ++ c ∷ [])) ≡ capability_texts (capability_name b ∷ map capability_name cs) (q ∷ map p cs)
      here true k = ap (item (string (cap ++ capability_name b))) k
      here false k = k

  pub texts_with : (all : List Capability) (i : ℕ) (d : Capability) (ws : List Value) (w : Value) → i < length all → items_view ws ≡ capability_texts (map capability_name (take i all)) (map p (take i all))
      → p (get_or all i d) ≡ true → view w ≡ string (cap ++ capability_name (get_or all i d)) → items_view (ws ++ w ∷ []) ≡ capability_texts (map capability_name (take (i + 1) all)) (map p (take (i + 1) all))
  texts_with all i d ws w below e is seen = rw (take_more all i d below) (texts_more (take i all) ws (get_or all i d) w e is seen)

  pub texts_without : (all : List Capability) (i : ℕ) (d : Capability) (ws : List Value) → i < length all → items_view ws ≡ capability_texts (map capability_name (take i all)) (map p (take i all))
      → p (get_or all i d) ≡ false → items_view ws ≡ capability_texts (map capability_name (take (i + 1) all)) (map p (take (i + 1) all))
  texts_without all i d ws below e is = rw (take_more all i d below) (e ∙ sym (texts_same (take i all) (get_or all i d) is))

-- the value of a text
pub view_string : (s : String Global) → view (value.String s) ≡ string (string_bytes s)
view_string s = search (rules, the_lemmas)

-- ---- the default

module _ {S : Type 0} where
  -- a set into which three were put holds these three
  pub default_is : (a b c d : HashSet Capability S) → a.keys ≡ [] → Updates capability_eq a b AuditWrite true → Updates capability_eq b c Kill true → Updates capability_eq c d NetBindService true
      → set_plain d ≡ default_set
  default_is a b c d none first second third = ap plain.set (each_same (contains capability_eq d) three all_capability holds ∙ refl)
    where
      three : Capability → Bool
      three x = cond (capability_eq NetBindService x) true (cond (capability_eq Kill x) true (cond (capability_eq AuditWrite x) true false))

      holds : (x : Capability) → contains capability_eq d x ≡ three x
      holds x =
          let empty : contains capability_eq a x ≡ false = rw none refl in
          rw (third.0 x, second.0 x, first.0 x, empty) refl
