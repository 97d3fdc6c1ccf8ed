-- What lists of parts contain: what is listed of each part, and nothing else.
use Rattle.std.proofs.Common.{◌≡◌, inl, inr, ℕ, zero, suc, ◌+◌, List, [], ◌∷◌, ◌++◌, Option, Some, None, refl, sym, subst, arith}
use Rattle.std.specs.Prelude.{◌↔◌, ◌⊎◌}
use Rattle.std.specs.List.{Contains}
use Rattle.std.proofs.lemmas.List.Elements.{Contains-append_left, Contains-append_right, Contains-append_cases, Contains-push_cases}
use Rattle.serde_json.specs.Data.{Data, Items, no_items, item, Members, no_members, member}
use Rattle.serde_json.specs.Find.{get_item}
use Rattle.oci_schema.specs.EachPart.{of_each, of_items, of_each_member, of_members, of_part}
use Rattle.oci_schema.specs.Leads.{Have}
use Rattle.oci_schema.specs.Places.{under_name, under_index}

pub nothing_in : {A P : Type 0} (x : A) → Contains [] x → P
nothing_in x h = let (k, below, is) = h in absurd (omega arith)

pub no_some : {A P : Type 0} (x : A) → None ≡ Some x → P
no_some x e = absurd cc

pub in_both : {A : Type 0} (xs ys : List A) (x : A) (P Q : Type 0) → Contains xs x ↔ P → Contains ys x ↔ Q → Contains (xs ++ ys) x ↔ (P ⊎ Q)
in_both xs ys x P Q one rest = ((λ h. there (Contains-append_cases xs ys x h)), back)
  where
    there : Contains xs x ⊎ Contains ys x → P ⊎ Q
    there (inl h) = inl (one.0 h)
    there (inr h) = inr (rest.0 h)

    back : P ⊎ Q → Contains (xs ++ ys) x
    back (inl h) = Contains-append_left xs ys x (one.1 h)
    back (inr h) = Contains-append_right xs ys x (rest.1 h)

pub one_in : {A : Type 0} (a x : A) → Contains (a ∷ []) x → a ≡ x
one_in a x h = go (Contains-push_cases [] a x h)
  where
    go : Contains [] x ⊎ (a ≡ x) → a ≡ x
    go (inl e) = nothing_in x e
    go (inr e) = e

pub back_data : (c d : Data) → Some d ≡ Some c → c ≡ d
back_data c d e = let s : d ≡ c = cc in sym s

pub back_items : (es ds : Items) → Some ds ≡ Some es → es ≡ ds
back_items es ds e = let s : ds ≡ es = cc in sym s

pub back_members : (ns ms : Members) → Some ms ≡ Some ns → ns ≡ ms
back_members ns ms e = let s : ms ≡ ns = cc in sym s

-- ---- parts

-- what is so of a part, from its pointer and itself
abbrev pub Claim : Type 0 → Type 1
Claim R = List ℕ → Data → R → Type 0

-- what is listed is what is so
abbrev pub Tells : {R : Type 0} → (List ℕ → Data → List R) → Claim R → Type 0
Tells {R} f C = (at : List ℕ) (d : Data) (x : R) → Contains (f at d) x ↔ C at d x

abbrev pub InEach : {R : Type 0} → Claim R → List ℕ → ℕ → Items → R → Type 0
InEach C at i ds x = (j : ℕ) × (c : Data) × (get_item j ds ≡ Some c) × C (under_index at (i + j)) c x

pub each_in : {R : Type 0} (f : List ℕ → Data → List R) (C : Claim R) → Tells f C → (at : List ℕ) (i : ℕ) (ds : Items) (x : R) → Contains (of_each f at i ds) x ↔ InEach C at i ds x
each_in f C is at i no_items x = ((λ h. nothing_in x h), (λ h. let (j, c, e, so) = h in no_some c e))
each_in f C is at i (item d ds) x =
    let both = in_both (f (under_index at i) d) (of_each f at (i + 1) ds) x (C (under_index at i) d x) (InEach C at (i + 1) ds x) (is (under_index at i) d x) (each_in f C is at (i + 1) ds x) in
    ((λ h. joined (both.0 h)), (λ h. both.1 (split h)))
  where
    joined : C (under_index at i) d x ⊎ InEach C at (i + 1) ds x → InEach C at i (item d ds) x
    joined (inl h) = let z : i ≡ i + 0 = omega arith in (0, d, refl, subst (λ n. C (under_index at n) d x) z h)
    joined (inr h) =
        let (j, c, found, so) = h in
        let z : (i + 1) + j ≡ i + suc j = omega arith in
        (suc j, c, found, subst (λ n. C (under_index at n) c x) z so)

    split : InEach C at i (item d ds) x → C (under_index at i) d x ⊎ InEach C at (i + 1) ds x
    split (zero, c, found, so) =
        let same : c ≡ d = back_data c d found in
        let z : i + 0 ≡ i = omega arith in
        inl (subst (λ n. C (under_index at n) d x) z (subst (λ b. C (under_index at (i + 0)) b x) same so))
    split (suc j, c, found, so) = let z : i + suc j ≡ (i + 1) + j = omega arith in inr (j, c, found, subst (λ n. C (under_index at n) c x) z so)

abbrev pub InItems : {R : Type 0} → Claim R → List ℕ → Option Items → R → Type 0
InItems C at o x = (ds : Items) × (o ≡ Some ds) × InEach C at 0 ds x

pub items_in : {R : Type 0} (f : List ℕ → Data → List R) (C : Claim R) → Tells f C → (at : List ℕ) (o : Option Items) (x : R) → Contains (of_items f at o) x ↔ InItems C at o x
items_in f C is at None x = ((λ h. nothing_in x h), (λ h. let (ds, e, so) = h in no_some ds e))
items_in f C is at (Some ds) x = ((λ h. (ds, refl, (each_in f C is at 0 ds x).0 h)), (λ h. back h))
  where
    back : InItems C at (Some ds) x → Contains (of_each f at 0 ds) x
    back h =
        let (es, e, so) = h in
        let same : es ≡ ds = back_items es ds e in
        (each_in f C is at 0 ds x).1 (subst (λ (z : Items). InEach C at 0 z x) same so)

abbrev pub InMembers : {R : Type 0} → Claim R → List ℕ → Members → R → Type 0
InMembers C at ms x = (name : List ℕ) × (c : Data) × Have ms name c × C (under_name at name) c x

pub each_member_in : {R : Type 0} (f : List ℕ → Data → List R) (C : Claim R) → Tells f C → (at : List ℕ) (ms : Members) (x : R) → Contains (of_each_member f at ms) x ↔ InMembers C at ms x
each_member_in f C is at no_members x = ((λ h. nothing_in x h), (λ h. let (name, c, have, so) = h in absurd have))
each_member_in f C is at (member k d ms) x =
    let both = in_both (f (under_name at k) d) (of_each_member f at ms) x (C (under_name at k) d x) (InMembers C at ms x) (is (under_name at k) d x) (each_member_in f C is at ms x) in
    ((λ h. joined (both.0 h)), (λ h. both.1 (split h)))
  where
    joined : C (under_name at k) d x ⊎ InMembers C at ms x → InMembers C at (member k d ms) x
    joined (inl h) = (k, d, inl (refl, refl), h)
    joined (inr h) = let (name, c, have, so) = h in (name, c, inr have, so)

    split : InMembers C at (member k d ms) x → C (under_name at k) d x ⊎ InMembers C at ms x
    split (name, c, inl same, so) = inl (subst (λ n. C (under_name at n) d x) same.0 (subst (λ b. C (under_name at name) b x) same.1 so))
    split (name, c, inr have, so) = inr (name, c, have, so)

abbrev pub InObject : {R : Type 0} → Claim R → List ℕ → Option Members → R → Type 0
InObject C at o x = (ms : Members) × (o ≡ Some ms) × InMembers C at ms x

pub members_in : {R : Type 0} (f : List ℕ → Data → List R) (C : Claim R) → Tells f C → (at : List ℕ) (o : Option Members) (x : R) → Contains (of_members f at o) x ↔ InObject C at o x
members_in f C is at None x = ((λ h. nothing_in x h), (λ h. let (ms, e, so) = h in no_some ms e))
members_in f C is at (Some ms) x = ((λ h. (ms, refl, (each_member_in f C is at ms x).0 h)), (λ h. back h))
  where
    back : InObject C at (Some ms) x → Contains (of_each_member f at ms) x
    back h =
        let (ns, e, so) = h in
        let same : ns ≡ ms = back_members ns ms e in
        (each_member_in f C is at ms x).1 (subst (λ (z : Members). InMembers C at z x) same so)

pub part_in : {R : Type 0} (f : List ℕ → Data → List R) (C : Claim R) → Tells f C → (at : List ℕ) (o : Option Data) (x : R) → Contains (of_part f at o) x ↔ ((c : Data) × (o ≡ Some c) × C at c x)
part_in f C is at None x = ((λ h. nothing_in x h), (λ h. let (c, e, so) = h in no_some c e))
part_in f C is at (Some d) x = ((λ h. (d, refl, (is at d x).0 h)), (λ h. back h))
  where
    back : (c : Data) × (Some d ≡ Some c) × C at c x → Contains (f at d) x
    back h =
        let (c, e, so) = h in
        let same : c ≡ d = back_data c d e in
        (is at d x).1 (subst (λ b. C at b x) same so)
