-- Lists that are read from the front.
use Rattle.std.proofs.Common.{arith, ◌≡◌, ◌≢◌, ◌<◌, ◌+◌, Bor, length, get_or, drop, suc, add-one, drop-cons, List, ℕ, [], ◌∷◌, ◌++◌, map, Option, Some, None, refl, ap, sym, subst, append_assoc, ◌∙◌}
use Rattle.std.proofs.lemmas.List.{map-append}
use Rattle.toml.specs.Data.{Data, Members, member}
use Rattle.toml.specs.View.{view, items_view}
use Rattle.toml.specs.declared.value.Value.{Value}
use Rattle.oci_rules.specs.declared.rule.Step.{Step}
use Rattle.oci_rules.specs.declared.rule.Step.TheVariants as step
use Rattle.oci_rules.specs.Tables.{place_of, texts_of}
use Rattle.oci_policies.specs.Places.{along}
use Rattle.oci_policies.specs.Steps.{step_view, steps_view}
use Rattle.oci_policies.specs.Values.{all, before, behind, each, some_items, two}

pub behind_nothing : {A : Type 0} (os : Option (List A)) → behind [] os ≡ os
behind_nothing None = refl
behind_nothing (Some xs) = refl

pub behind_more : {A : Type 0} (xs : List A) (x : A) (os : Option (List A)) → behind (xs ++ x ∷ []) os ≡ behind xs (before (Some x) os)
behind_more xs x None = refl
behind_more xs x (Some ys) = ap Some (append_assoc xs (x ∷ []) ys)

-- one more that is read
pub all_next : {A B X Y : Type 0} (f : A → Option B) (now : X → A) (v : Y → B) (xs : List X) (i : ℕ) (d : X) (old new : List Y) (y : Y) (whole : Option (List B))
    → i < length xs → new ≡ old ++ y ∷ [] → f (now (get_or xs i d)) ≡ Some (v y)
    → behind (map v old) (all f (map now (drop i xs))) ≡ whole → behind (map v new) (all f (map now (drop (i + 1) xs))) ≡ whole
all_next f now v xs i d old new y whole within is reads sofar =
    let cut : drop i xs ≡ get_or xs i d ∷ drop (suc i) xs = drop-cons xs i d within in
    let more = rw cut at sofar in
    let next = rw reads at more in
    rw (is, add-one, map-append v old (y ∷ [])) (behind_more (map v old) (v y) (all f (map now (drop (suc i) xs))) ∙ next)

pub each_next : {B Y : Type 0} (f : Data → Option B) (v : Y → B) (xs : List Value) (i : ℕ) (x : Value) (old new : List Y) (y : Y) (whole : Option (List B))
    → i < length xs → x ≡ get_or xs i x → new ≡ old ++ y ∷ [] → f (view x) ≡ Some (v y)
    → behind (map v old) (each f (items_view (drop i xs))) ≡ whole → behind (map v new) (each f (items_view (drop (i + 1) xs))) ≡ whole
each_next f v xs i x old new y whole within it is reads sofar =
    let cut : drop i xs ≡ get_or xs i x ∷ drop (suc i) xs = drop-cons xs i x within in
    let here : f (view (get_or xs i x)) ≡ Some (v y) = subst (λ (z : Value). f (view z) ≡ Some (v y)) it reads in
    let more = rw cut at sofar in
    let next = rw here at more in
    rw (is, add-one, map-append v old (y ∷ [])) (behind_more (map v old) (v y) (each f (items_view (drop (suc i) xs))) ∙ next)

-- one more that is made of a part
pub mapped_next : {B S X Y : Type 0} (v : Y → B) (g : S → B) (part : X → S) (xs : List X) (i : ℕ) (x : X) (old new : List Y) (y : Y) (whole : List B)
    → i < length xs → x ≡ get_or xs i x → new ≡ old ++ y ∷ [] → v y ≡ g (part x)
    → map v old ++ map g (map part (drop i xs)) ≡ whole → map v new ++ map g (map part (drop (i + 1) xs)) ≡ whole
mapped_next v g part xs i x old new y whole within it is made sofar =
    let cut : drop i xs ≡ get_or xs i x ∷ drop (suc i) xs = drop-cons xs i x within in
    let here : g (part (get_or xs i x)) ≡ v y = subst (λ z. g (part z) ≡ v y) it (sym made) in
    let more = rw cut at sofar in
    let next = rw here at more in
    rw (is, add-one, map-append v old (y ∷ [])) (append_assoc (map v old) (v y ∷ []) (map g (map part (drop (suc i) xs))) ∙ next)

-- the place of steps is that of what they stand for
step_is : (s : Step) (ss : List Step) → place_of ss ≡ along (steps_view ss) → place_of (s ∷ ss) ≡ along (steps_view (s ∷ ss))
unfolding step_view
step_is (step.Member name) ss is = rw is
step_is step.EachItem ss is = rw is
step_is step.EachMember ss is = rw is
step_is step.EachName ss is = rw is
step_is (step.When c) ss is = rw is

pub place_is : (ss : List Step) → place_of ss ≡ along (steps_view ss)
place_is [] = refl
place_is (s ∷ ss) = step_is s ss (place_is ss)

pub place_joined : (p a b : List Step) → p ≡ a ++ b → place_of p ≡ along (steps_view a ++ steps_view b)
place_joined p a b h = rw h (place_is (a ++ b) ∙ ap along (map-append step_view a b))

-- nothing, unless there are two
pub two_missing : {A : Type 0} (xs : List A) → length xs ≢ 2 → two xs ≡ None
two_missing [] h = refl
two_missing (x ∷ []) h = refl
two_missing (x ∷ y ∷ []) h = absurd (h refl)
two_missing (x ∷ y ∷ z ∷ zs) h = refl

pub two_texts_missing : (ts : List (Bor (List ℕ))) → length ts ≢ 2 → two (texts_of ts) ≡ None
two_texts_missing [] h = refl
two_texts_missing (x ∷ []) h = refl
two_texts_missing (x ∷ y ∷ []) h = absurd (h refl)
two_texts_missing (x ∷ y ∷ z ∷ zs) h = refl

-- the items, unless there are none
pub some_there : (vs : List Value) → length vs ≢ 0 → some_items (items_view vs) ≡ Some (items_view vs)
some_there [] h = absurd (h refl)
some_there (v ∷ vs) h = refl

pub some_missing : (vs : List Value) → length vs ≡ 0 → some_items (items_view vs) ≡ None
some_missing [] h = refl
some_missing (v ∷ vs) h = absurd (omega arith)

-- a member in front, if there is one
abbrev pub in_front : Option (List ℕ × Data) → Members → Members
in_front None ms = ms
in_front (Some m) ms = member m.0 m.1 ms
