-- No name is listed exactly where no object has a name twice.
use Rattle.std.proofs.Common.{◌≡◌, ℕ, ◌+◌, List, [], ◌∷◌, ◌++◌, ◌||◌, Bool, true, false, Option, Some, None, bytes_eq, string_bytes, String, map, refl, sym, ap, ◌∙◌, true≢false, option_map}
use Rattle.std.specs.Prelude.{◌↔◌, IsSomeAnd}
use Rattle.std.specs.declared.alloc.Global.{Global}
use Rattle.std.specs.List.{IsDistinct, AllByRecursion, list_any}
use Rattle.std.proofs.lemmas.Map.Made.{AllPairs-from_IsDistinct, IsDistinct-from_AllPairs}
use Rattle.std.proofs.lemmas.Slice.Eq.{bytes_eq-Decides}
use Rattle.json.specs.Json.{Json, null, boolean, number, string, array, object, Items, no_items, item, Members, no_members, member}
use Rattle.json.specs.Strict.{keys, AreDistinct, HasUniqueKeys, ItemsHaveUniqueKeys, MembersHaveUniqueKeys}
use Rattle.oci_schema.specs.Places.{under_name, under_index}
use Rattle.oci_schema.specs.Twice.{no_name, with_name, if_there, repeated, repeated_items, repeated_members}

none_first : (xs ys : List (List ℕ)) → xs ++ ys ≡ [] → xs ≡ []
none_first [] ys e = refl
none_first (x ∷ xs) ys e = cc

none_later : (xs ys : List (List ℕ)) → xs ++ ys ≡ [] → ys ≡ []
none_later [] ys e = e
none_later (x ∷ xs) ys e = absurd cc

no_more : (xs ys : List (List ℕ)) → xs ≡ [] → ys ≡ [] → xs ++ ys ≡ []
no_more xs ys e h = rw (e, h) refl

unseen : (b : Bool) (at : List ℕ) → (if_there b at ≡ []) ↔ (b ≡ false)
unseen true at = ((λ e. absurd (filled e)), (λ e. absurd (true≢false e)))
  where
    filled : at ∷ [] ≡ [] → ⊥
    filled e = cc
unseen false at = ((λ e. refl), (λ e. refl))

either_false : (a b : Bool) → ((a || b) ≡ false) ↔ ((a ≡ false) × (b ≡ false))
either_false true b = ((λ e. absurd (true≢false e)), (λ h. h.0))
either_false false b = ((λ e. (refl, e)), (λ h. h.1))

-- none of the names is one of those before
abbrev Fresh : (List ℕ → Bool) → List (List ℕ) → Type 0
Fresh p [] = Unit {0}
Fresh p (k ∷ ks) = (p k ≡ false) × Fresh p ks

fresh_with : (p : List ℕ → Bool) (k : List ℕ) (ks : List (List ℕ)) → Fresh (with_name k p) ks ↔ (Fresh p ks × Fresh (λ q. bytes_eq q k) ks)
fresh_with p k [] = ((λ h. (tt, tt)), (λ h. tt))
fresh_with p k (q ∷ ks) =
    let one = either_false (bytes_eq q k) (p q) in
    let rest = fresh_with p k ks in
    ((λ h. (((one.0 h.0).1, (rest.0 h.1).0), ((one.0 h.0).0, (rest.0 h.1).1))), (λ h. (one.1 (h.1.0, h.0.0), rest.1 (h.0.1, h.1.1))))

fresh_none : (ks : List (List ℕ)) → Fresh no_name ks
fresh_none [] = tt
fresh_none (k ∷ ks) = (refl, fresh_none ks)

-- ---- the names of one object

turned : (xs ys : List ℕ) → bytes_eq xs ys ≡ false → bytes_eq ys xs ≡ false
turned xs ys e = go (bytes_eq ys xs) refl
  where
    go : (b : Bool) → bytes_eq ys xs ≡ b → bytes_eq ys xs ≡ false
    go true h = absurd (true≢false (sym ((bytes_eq-Decides xs ys).1 (sym ((bytes_eq-Decides ys xs).0 h))) ∙ e))
    go false h = h

apart : (k : List ℕ) (ks : List (List ℕ)) → Fresh (λ q. bytes_eq q k) ks ↔ (list_any (bytes_eq k) ks ≡ false)
apart k [] = ((λ h. refl), (λ e. tt))
apart k (q ∷ ks) =
    let two = either_false (bytes_eq k q) (list_any (bytes_eq k) ks) in
    let rest = apart k ks in
    ((λ h. two.1 (turned q k h.0, rest.0 h.1)), (λ e. (turned k q (two.0 e).0, rest.1 (two.0 e).1)))

-- ---- values

abbrev Unrepeated : List ℕ → Json → Type 0
Unrepeated at j = (repeated at j ≡ []) ↔ HasUniqueKeys j

-- none of the names stands again
abbrev Once : List (List ℕ) → Type 0
Once [] = Unit {0}
Once (k ∷ ks) = (list_any (bytes_eq k) ks ≡ false) × Once ks

each_apart : (k : List ℕ) (ks : List (List ℕ)) → (list_any (bytes_eq k) ks ≡ false) ↔ AllByRecursion (λ q. bytes_eq k q ≡ false) ks
each_apart k [] = ((λ e. tt), (λ h. refl))
each_apart k (q ∷ ks) =
    let two = either_false (bytes_eq k q) (list_any (bytes_eq k) ks) in
    let rest = each_apart k ks in
    ((λ e. ((two.0 e).0, rest.0 (two.0 e).1)), (λ h. two.1 (h.0, rest.1 h.1)))

once_is : (ks : List (List ℕ)) → Once ks ↔ IsDistinct bytes_eq ks
unfolding IsDistinct
once_is [] = ((λ h. tt), (λ h. tt))
once_is (k ∷ ks) =
    let one = each_apart k ks in
    let rest = once_is ks in
    ((λ h. (one.0 h.0, rest.0 h.1)), (λ h. (one.1 h.0, rest.1 h.1)))

distinct_is : (ks : List (List ℕ)) → Once ks ↔ AreDistinct ks
distinct_is ks =
    let same = once_is ks in
    ((λ h. AllPairs-from_IsDistinct bytes_eq-Decides ks (same.0 h)), (λ h. same.1 (IsDistinct-from_AllPairs bytes_eq-Decides ks h)))

mutual
  unique : (at : List ℕ) (j : Json) → Unrepeated at j
  unique at null = ((λ e. tt), (λ h. refl))
  unique at (boolean b) = ((λ e. tt), (λ h. refl))
  unique at (number t) = ((λ e. tt), (λ h. refl))
  unique at (string t) = ((λ e. tt), (λ h. refl))
  unique at (array js) = items_unique at 0 js
  unique at (object ms) =
      let is = members_unique at no_name ms in
      let same = distinct_is (keys ms) in
      ((λ e. let h = is.0 e in (same.0 h.1, h.2)), (λ h. is.1 (fresh_none (keys ms), same.1 h.0, h.1)))

  items_unique : (at : List ℕ) (i : ℕ) (js : Items) → (repeated_items at i js ≡ []) ↔ ItemsHaveUniqueKeys js
  items_unique at i no_items = ((λ e. tt), (λ h. refl))
  items_unique at i (item j js) =
      let one = unique (under_index at i) j in
      let rest = items_unique at (i + 1) js in (
        (λ e. (one.0 (none_first (repeated (under_index at i) j) _ e), rest.0 (none_later (repeated (under_index at i) j) _ e))),
        (λ h. no_more (repeated (under_index at i) j) _ (one.1 h.0) (rest.1 h.1)),
      )

  members_unique : (at : List ℕ) (p : List ℕ → Bool) (ms : Members) → (repeated_members at p ms ≡ []) ↔ (Fresh p (keys ms) × Once (keys ms) × MembersHaveUniqueKeys ms)
  members_unique at p no_members = ((λ e. (tt, tt, tt)), (λ h. refl))
  members_unique at p (member k j ms) =
      let here : List (List ℕ) = if_there (p k) (under_name at k) in
      let inner : List (List ℕ) = repeated (under_name at k) j in
      let later : List (List ℕ) = repeated_members at (with_name k p) ms in
      let own = unseen (p k) (under_name at k) in
      let one = unique (under_name at k) j in
      let rest = members_unique at (with_name k p) ms in
      let split = fresh_with p k (keys ms) in
      let others = apart k (keys ms) in (
        (λ e.
            let front = none_first (here ++ inner) later e in
            let behind = rest.0 (none_later (here ++ inner) later e) in
            let names = split.0 behind.0 in
            ((own.0 (none_first here inner front), names.0), (others.0 names.1, behind.1), (one.0 (none_later here inner front), behind.2))),
        (λ h. no_more (here ++ inner) later (no_more here inner (own.1 h.0.0) (one.1 h.2.0)) (rest.1 (split.1 (h.0.1, others.1 h.1.0), h.1.1, h.2.1))),
      )

nothing : (v : List (String Global)) → map string_bytes v ≡ [] → v ≡ []
nothing [] e = refl
nothing (x ∷ v) e = cc

-- of the list that is made
pub none_twice : (o : Option Json) (v : List (String Global)) → option_map (repeated []) o ≡ Some (map string_bytes v) → (v ≡ []) ↔ IsSomeAnd o HasUniqueKeys
none_twice None v e = absurd cc
none_twice (Some j) v e =
    let same : repeated [] j ≡ map string_bytes v = cc in
    ((λ h. (unique [] j).0 (same ∙ ap (map string_bytes) h)), (λ h. nothing v (sym same ∙ (unique [] j).1 h)))
