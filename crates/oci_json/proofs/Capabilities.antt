-- What is written for a set of capabilities is read as the set.
use Rattle.std.proofs.Common.{◌≡◌, ℕ, zero, suc, List, [], ◌∷◌, ◌++◌, Bool, true, false, not, ◌&&◌, ◌||◌, length, bytes_eq, refl, ◌∙◌, sym, ap, subst, true≢false, inl, inr, arith}
use Rattle.std.specs.Prelude.{◌↔◌, ◌⊎◌, IsTrue, nat_eq, map}
use Rattle.std.specs.List.{list_all, starts_with}
use Rattle.std.proofs.lemmas.Bool.{and_parts, or_right, not-true}
use Rattle.std.proofs.lemmas.Slice.Eq.{bytes_eq-Decides}
use Rattle.serde_json.specs.Data.{Items, string}
use Rattle.oci_base.specs.Capabilities.{ascii_upper, cap, repeated, is_capability_name}
use Rattle.oci_base.specs.Names.{is_listed, no_text_twice}
use Rattle.oci_model.specs.Means.{IsCapability, AreCapabilities, SomeIs, IsSetOf}
use Rattle.oci_model.specs.Value.{capability_texts}

-- the uppercase of a text and a text
upper-append : (s t : List ℕ) → map ascii_upper (s ++ t) ≡ map ascii_upper s ++ map ascii_upper t
upper-append [] t = refl
upper-append (x ∷ s) t = ap (λ ys. ascii_upper x ∷ ys) (upper-append s t)

-- what `CAP_` stands in front of begins with it
begins : (t : List ℕ) → starts_with nat_eq (cap ++ t) cap ≡ true
begins t = refl

-- `CAP_` is taken off alike
behind : (s t : List ℕ) → cap ++ s ≡ cap ++ t → s ≡ t
behind s t e = cc

-- a capability's name, apart
IsName : List ℕ → Type 0
IsName name = (starts_with nat_eq name cap ≡ false) × (map ascii_upper name ≡ name)

-- from the test of a table
is_name : (name : List ℕ) → is_capability_name name ≡ true → IsName name
unfolding IsName
is_name name e =
    let b = and_parts (not (starts_with nat_eq name cap)) (bytes_eq (map ascii_upper name) name) e in
    (not-true (starts_with nat_eq name cap) b.0, (bytes_eq-Decides (map ascii_upper name) name).0 b.1)

-- a name has no `CAP_` in front
no_cap : (name t : List ℕ) → IsName name → name ≡ cap ++ t → ⊥
unfolding IsName
no_cap name t is e = true≢false (sym (begins t) ∙ sym (ap (λ n. starts_with nat_eq n cap) e) ∙ is.0)

-- `CAP_` any number of times in front of a name gives the name back
one_name : (m n : List ℕ) (k : ℕ) → IsName m → IsName n → cap ++ m ≡ repeated k cap ++ n → m ≡ n
one_name m n zero is_m is_n e = absurd (no_cap n m is_n (sym e))
one_name m n (suc zero) is_m is_n e = behind m n e
one_name m n (suc (suc k)) is_m is_n e =
    absurd (no_cap m (repeated k cap ++ n) is_m (behind m (cap ++ (repeated k cap ++ n)) e))

-- the name stands in the table where the set has it
abbrev Chosen : List (List ℕ) → List Bool → List ℕ → Type 0
Chosen [] bs name = ⊥
Chosen (t ∷ table) [] name = ⊥
Chosen (t ∷ table) (true ∷ bs) name = (name ≡ t) ⊎ Chosen table bs name
Chosen (t ∷ table) (false ∷ bs) name = Chosen table bs name

-- the text of a name is of that name
of_its_text : (t : List ℕ) → IsName t → IsCapability (string (cap ++ t)) t
unfolding IsName
of_its_text t is = (cap ++ t, refl, (1, upper-append cap t ∙ ap (λ u. cap ++ u) is.1))

-- and of no other
of_one_name : (t name : List ℕ) → IsName t → IsName name → IsCapability (string (cap ++ t)) name → name ≡ t
unfolding IsName
of_one_name t name is_t is_n c =
    let same : cap ++ t ≡ c.0 = cc in
    let upper : map ascii_upper (cap ++ t) ≡ cap ++ t = upper-append cap t ∙ ap (λ u. cap ++ u) is_t.1 in
    sym (one_name t name c.2.0 is_t is_n (sym upper ∙ ap (map ascii_upper) same ∙ c.2.1))

-- a name in the set has a text that is written
some_if_chosen : (table : List (List ℕ)) (bs : List Bool) (name : List ℕ) → IsName name → Chosen table bs name → SomeIs (capability_texts table bs) name
some_if_chosen [] bs name is h = absurd h
some_if_chosen (t ∷ table) [] name is h = absurd h
some_if_chosen (t ∷ table) (true ∷ bs) name is (inl e) = inl (subst (λ n. IsCapability (string (cap ++ n)) name) e (of_its_text name is))
some_if_chosen (t ∷ table) (true ∷ bs) name is (inr h) = inr (some_if_chosen table bs name is h)
some_if_chosen (t ∷ table) (false ∷ bs) name is h = some_if_chosen table bs name is h

-- a name with a text that is written is in the set
chosen_if_some : (table : List (List ℕ)) (bs : List Bool) (name : List ℕ) → list_all is_capability_name table ≡ true → IsName name
    → SomeIs (capability_texts table bs) name → Chosen table bs name
chosen_if_some [] bs name all is h = absurd h
chosen_if_some (t ∷ table) [] name all is h = absurd h
chosen_if_some (t ∷ table) (true ∷ bs) name all is (inl c) = inl (of_one_name t name (is_name t (and_parts (is_capability_name t) _ all).0) is c)
chosen_if_some (t ∷ table) (true ∷ bs) name all is (inr h) = inr (chosen_if_some table bs name (and_parts (is_capability_name t) _ all).1 is h)
chosen_if_some (t ∷ table) (false ∷ bs) name all is h = chosen_if_some table bs name (and_parts (is_capability_name t) _ all).1 is h

-- a name in the set is in the table
chosen_is_listed : (table : List (List ℕ)) (bs : List Bool) (name : List ℕ) → Chosen table bs name → is_listed table name ≡ true
chosen_is_listed [] bs name h = absurd h
chosen_is_listed (t ∷ table) [] name h = absurd h
chosen_is_listed (t ∷ table) (true ∷ bs) name (inl e) = rw ((bytes_eq-Decides name t).1 e) refl
chosen_is_listed (t ∷ table) (true ∷ bs) name (inr h) = or_right (bytes_eq name t) _ (chosen_is_listed table bs name h)
chosen_is_listed (t ∷ table) (false ∷ bs) name h = or_right (bytes_eq name t) _ (chosen_is_listed table bs name h)

-- each name of the table is in the set exactly if it is chosen, and the table has no name twice
are_set : (table : List (List ℕ)) (bs : List Bool) (ds : Items) → length bs ≡ length table → no_text_twice table ≡ true
    → ((name : List ℕ) → is_listed table name ≡ true → (SomeIs ds name ↔ Chosen table bs name)) → IsSetOf table ds bs
are_set [] [] ds e once h = tt
are_set [] (b ∷ bs) ds e once h = absurd (omega arith)
are_set (t ∷ table) [] ds e once h = absurd (omega arith)
are_set (t ∷ table) (b ∷ bs) ds e once h =
    let o = and_parts (not (is_listed table t)) (no_text_twice table) once in
    let here = h t (rw ((bytes_eq-Decides t t).1 refl) refl) in
    (first b here o.0, are_set table bs ds (omega arith) o.1 (λ name is. later name is b (h name (or_right (bytes_eq name t) _ is)) o.0))
  where
    first : (c : Bool) → (SomeIs ds t ↔ Chosen (t ∷ table) (c ∷ bs) t) → not (is_listed table t) ≡ true → IsTrue c ↔ SomeIs ds t
    first true k n = (λ _. k.1 (inl refl), λ _. refl)
    first false k n = (λ f. absurd (true≢false (sym f)), λ s. absurd (true≢false (sym (chosen_is_listed table bs t (k.0 s)) ∙ not-true (is_listed table t) n)))

    other : (name : List ℕ) → is_listed table name ≡ true → not (is_listed table t) ≡ true → (name ≡ t) ⊎ Chosen table bs name → Chosen table bs name
    other name is n (inl same) = absurd (true≢false (sym is ∙ ap (is_listed table) same ∙ not-true (is_listed table t) n))
    other name is n (inr c) = c

    later : (name : List ℕ) → is_listed table name ≡ true → (c : Bool) → (SomeIs ds name ↔ Chosen (t ∷ table) (c ∷ bs) name) → not (is_listed table t) ≡ true
        → SomeIs ds name ↔ Chosen table bs name
    later name is true k n = (λ s. other name is n (k.0 s), λ c. k.1 (inr c))
    later name is false k n = k

-- all are names of the table
are_listed : (full table : List (List ℕ)) (bs : List Bool) → list_all is_capability_name table ≡ true
    → ((name : List ℕ) → is_listed table name ≡ true → is_listed full name ≡ true) → AreCapabilities full (capability_texts table bs)
are_listed full [] bs all h = tt
are_listed full (t ∷ table) [] all h = tt
are_listed full (t ∷ table) (true ∷ bs) all h =
    let a = and_parts (is_capability_name t) _ all in (
      (t, h t (rw ((bytes_eq-Decides t t).1 refl) refl), of_its_text t (is_name t a.0)),
      are_listed full table bs a.1 (λ name is. h name (or_right (bytes_eq name t) _ is)),
    )
are_listed full (t ∷ table) (false ∷ bs) all h =
    are_listed full table bs (and_parts (is_capability_name t) _ all).1 (λ name is. h name (or_right (bytes_eq name t) _ is))

-- each name of the table passes its test
all_hold : (table : List (List ℕ)) (name : List ℕ) → list_all is_capability_name table ≡ true → is_listed table name ≡ true → is_capability_name name ≡ true
all_hold [] name all is = absurd (true≢false (sym is))
all_hold (t ∷ table) name all is = here (bytes_eq name t) refl is (all_hold table name (and_parts (is_capability_name t) _ all).1)
  where
    here : (b : Bool) → bytes_eq name t ≡ b → (b || is_listed table name) ≡ true → (is_listed table name ≡ true → is_capability_name name ≡ true) → is_capability_name name ≡ true
    here true e k rest = subst (λ n. is_capability_name n ≡ true) (sym ((bytes_eq-Decides name t).0 e)) (and_parts (is_capability_name t) _ all).0
    here false e k rest = rest k

-- the texts that are written are of the table, and of the set
pub set_read : (table : List (List ℕ)) (bs : List Bool) → (no_text_twice table && list_all is_capability_name table) ≡ true → length bs ≡ length table
    → AreCapabilities table (capability_texts table bs) × IsSetOf table (capability_texts table bs) bs
set_read table bs well e =
    let w = and_parts (no_text_twice table) _ well in (
      are_listed table table bs w.1 (λ name is. is),
      are_set table bs (capability_texts table bs) e w.0 (λ name is.
          let n = is_name name (all_hold table name w.1 is) in
          (λ s. chosen_if_some table bs name w.1 n s, λ c. some_if_chosen table bs name n c)),
    )
