-- Items with the key of an earlier one.
use Rattle.std.proofs.Common.{◌≡◌, ◌≢◌, inl, inr, ℕ, zero, suc, ◌+◌, ◌<◌, List, [], Bool, true, false, not, ◌||◌, Option, Some, None, IfSome, bytes_eq, refl, sym, ap, ◌∙◌, true≢false, arith}
use Rattle.std.specs.Prelude.{◌↔◌, ◌⊎◌}
use Rattle.std.specs.List.{Contains}
use Rattle.std.proofs.lemmas.Slice.Eq.{bytes_eq-Decides}
use Rattle.serde_json.specs.Data.{Data, Items, no_items, item}
use Rattle.serde_json.specs.Find.{get_item}
use Rattle.oci_schema.specs.Places.{under_index}
use Rattle.oci_rules.specs.Rules.{Rule, Key}
use Rattle.oci_rules.specs.Parts.{key_of}
use Rattle.oci_rules.specs.Tests.{EachItem, AreDistinct}
use Rattle.oci_rules.specs.Breaks.{Told}
use Rattle.oci_rules.specs.Decided.{there_and}
use Rattle.oci_rules.specs.Listed.{unless, no_text, with_text, twins}
use Rattle.oci_schema.proofs.EachPart.{nothing_in, no_some, in_both}
use Rattle.oci_rules.proofs.Found.{in_unless, no_more, none_first, none_later, none_unless}

abbrev Texts : Type 0
Texts = List ℕ → Bool

either_false : (a b : Bool) → ((a || b) ≡ false) ↔ ((a ≡ false) × (b ≡ false))
either_false true b = ((λ e. absurd (true≢false e)), (λ h. h.0))
either_false false b = ((λ e. (refl, e)), (λ h. h.1))

either_true : (a b : Bool) → ((a || b) ≡ true) ↔ ((a ≡ true) ⊎ (b ≡ true))
either_true true b = ((λ e. inl refl), (λ h. refl))
either_true false b = ((λ e. inr e), (λ h. later h))
  where
    later : (false ≡ true) ⊎ (b ≡ true) → b ≡ true
    later (inl e) = absurd (true≢false (sym e))
    later (inr e) = e

not_false : (b : Bool) → (not b ≡ true) ↔ (b ≡ false)
not_false true = ((λ e. sym e), (λ e. sym e))
not_false false = ((λ e. refl), (λ e. refl))

not_true : (b : Bool) → (not b ≡ false) ↔ (b ≡ true)
not_true true = ((λ e. refl), (λ e. refl))
not_true false = ((λ e. sym e), (λ e. sym e))

differs : (u t : List ℕ) → (bytes_eq u t ≡ false) ↔ (u ≢ t)
differs u t = (apart, λ n. other n (bytes_eq u t) refl)
  where
    apart : bytes_eq u t ≡ false → u ≢ t
    apart e s = true≢false (sym ((bytes_eq-Decides u t).1 s) ∙ e)

    other : u ≢ t → (b : Bool) → bytes_eq u t ≡ b → bytes_eq u t ≡ false
    other n true e = absurd (n ((bytes_eq-Decides u t).0 e))
    other n false e = e

-- ---- none where all are distinct

unsome : (u t : List ℕ) → Some u ≡ Some t → u ≡ t
unsome u t e = cc e

-- nothing of these was seen before
abbrev Fresh : Key → Texts → Items → Type 0
Fresh key before ds = EachItem (λ d. there_and before (key_of key d) ≡ false) ds

seen_more : (before : Texts) (t : List ℕ) (o : Option (List ℕ)) → (there_and (with_text (Some t) before) o ≡ false) ↔ ((there_and before o ≡ false) × (o ≢ Some t))
seen_more before t None = ((λ e. (refl, (λ h. no_some t h))), (λ h. refl))
seen_more before t (Some u) =
    let two = either_false (bytes_eq u t) (before u) in
    let same = differs u t in
    ((λ e. ((two.0 e).1, (λ h. same.0 (two.0 e).0 (unsome u t h)))), (λ h. two.1 (same.1 (λ e. h.1 (ap Some e)), h.0)))

fresh_more : (key : Key) (before : Texts) (t : List ℕ) (ds : Items) → Fresh key (with_text (Some t) before) ds ↔ (Fresh key before ds × EachItem (λ e. key_of key e ≢ Some t) ds)
fresh_more key before t no_items = ((λ h. (tt, tt)), (λ h. tt))
fresh_more key before t (item d ds) =
    let one = seen_more before t (key_of key d) in
    let rest = fresh_more key before t ds in
    ((λ h. (((one.0 h.0).0, (rest.0 h.1).0), ((one.0 h.0).1, (rest.0 h.1).1))), (λ h. (one.1 (h.0.0, h.1.0), rest.1 (h.0.1, h.1.1))))

none_more : (before : Texts) (o : Option (List ℕ)) → (there_and (with_text None before) o ≡ false) ↔ (there_and before o ≡ false)
none_more before None = ((λ e. e), (λ e. e))
none_more before (Some u) = ((λ e. e), (λ e. e))

fresh_none : (key : Key) (before : Texts) (ds : Items) → Fresh key (with_text None before) ds ↔ Fresh key before ds
fresh_none key before no_items = ((λ h. h), (λ h. h))
fresh_none key before (item d ds) =
    let one = none_more before (key_of key d) in
    let rest = fresh_none key before ds in
    ((λ h. (one.0 h.0, rest.0 h.1)), (λ h. (one.1 h.0, rest.1 h.1)))

-- the same of what an item has, if anything
fresh_with : (key : Key) (before : Texts) (o : Option (List ℕ)) (ds : Items) → Fresh key (with_text o before) ds ↔ (Fresh key before ds × IfSome o (λ t. EachItem (λ e. key_of key e ≢ Some t) ds))
fresh_with key before None ds = let same = fresh_none key before ds in ((λ h. (same.0 h, tt)), (λ h. same.1 h.0))
fresh_with key before (Some t) ds = fresh_more key before t ds

go_on : (r : Rule) (key : Key) (at : List ℕ) (i : ℕ) (before : Texts) (ds : Items) → (twins r key at i before ds ≡ []) ↔ (Fresh key before ds × AreDistinct key ds)
go_on r key at i before no_items = ((λ e. (tt, tt)), (λ h. refl))
go_on r key at i before (item d ds) =
    let b : Bool = there_and before (key_of key d) in
    let here : List Told = unless (not b) r (under_index at i) in
    let later : List Told = twins r key at (i + 1) (with_text (key_of key d) before) ds in
    let one = none_unless (not b) r (under_index at i) in
    let fresh = not_false b in
    let rest = go_on r key at (i + 1) (with_text (key_of key d) before) ds in
    let kept = fresh_with key before (key_of key d) ds in (
      (λ e.
          let behind = rest.0 (none_later here later e) in
          let split = kept.0 behind.0 in
          ((fresh.0 (one.0 (none_first here later e)), split.0), (split.1, behind.1))),
      (λ h. no_more here later (one.1 (fresh.1 h.0.0)) (rest.1 (kept.1 (h.0.1, h.1.0), h.1.1))),
    )

all_fresh : (key : Key) (ds : Items) → Fresh key no_text ds
all_fresh key no_items = tt
all_fresh key (item d ds) = (none_seen (key_of key d), all_fresh key ds)
  where
    none_seen : (o : Option (List ℕ)) → there_and no_text o ≡ false
    none_seen None = refl
    none_seen (Some t) = refl

pub twins_none : (r : Rule) (key : Key) (at : List ℕ) (ds : Items) → (twins r key at 0 no_text ds ≡ []) ↔ AreDistinct key ds
twins_none r key at ds =
    let is = go_on r key at 0 no_text ds in
    ((λ e. (is.0 e).1), (λ h. is.1 (all_fresh key ds, h)))

-- ---- each where an earlier item has the key

abbrev pub Earlier : Key → ℕ → List ℕ → Items → Type 0
Earlier key j t ds = (k : ℕ) × (e : Data) × (k < j) × (get_item k ds ≡ Some e) × (key_of key e ≡ Some t)

abbrev Twin : Rule → Key → List ℕ → ℕ → Texts → Items → Told → Type 0
Twin r key at i before ds x =
    (j : ℕ) × (c : Data) × (t : List ℕ) × (get_item j ds ≡ Some c) × (key_of key c ≡ Some t) × ((r, under_index at (i + j)) ≡ x) × ((before t ≡ true) ⊎ Earlier key j t ds)

-- the item is a twin of one before all
first_twin : (r : Rule) (key : Key) (at : List ℕ) (i : ℕ) (before : Texts) (d : Data) (ds : Items) (x : Told) (o : Option (List ℕ)) → key_of key d ≡ o
    → (not (there_and before o) ≡ false) × ((r, under_index at i) ≡ x) → Twin r key at i before (item d ds) x
first_twin r key at i before d ds x None e h = absurd (true≢false h.0)
first_twin r key at i before d ds x (Some t) e h =
    let z : i + 0 ≡ i = omega arith in
    (0, d, t, refl, e, ap (λ n. (r, under_index at n)) z ∙ h.1, inl ((not_true (before t)).0 h.0))

later_earlier : (key : Key) (before : Texts) (d : Data) (ds : Items) (j : ℕ) (t : List ℕ) → Earlier key j t ds → (before t ≡ true) ⊎ Earlier key (suc j) t (item d ds)
later_earlier key before d ds j t h = let (k, c, below, found, has) = h in inr (suc k, c, omega arith, found, has)

with_first : (key : Key) (before : Texts) (d : Data) (ds : Items) (j : ℕ) (t : List ℕ) (o : Option (List ℕ)) → key_of key d ≡ o → (with_text o before t ≡ true) ⊎ Earlier key j t ds
    → (before t ≡ true) ⊎ Earlier key (suc j) t (item d ds)
with_first key before d ds j t None e (inl h) = inl h
with_first key before d ds j t (Some u) e (inl h) = go ((either_true (bytes_eq t u) (before t)).0 h)
  where
    go : (bytes_eq t u ≡ true) ⊎ (before t ≡ true) → (before t ≡ true) ⊎ Earlier key (suc j) t (item d ds)
    go (inl s) = inr (0, d, omega arith, refl, e ∙ ap Some (sym ((bytes_eq-Decides t u).0 s)))
    go (inr s) = inl s
with_first key before d ds j t None e (inr h) = later_earlier key before d ds j t h
with_first key before d ds j t (Some u) e (inr h) = later_earlier key before d ds j t h

later_twin : (r : Rule) (key : Key) (at : List ℕ) (i : ℕ) (before : Texts) (d : Data) (ds : Items) (x : Told) → Twin r key at (i + 1) (with_text (key_of key d) before) ds x
    → Twin r key at i before (item d ds) x
later_twin r key at i before d ds x h =
    let (j, c, t, found, has, shown, seen) = h in
    let z : i + suc j ≡ (i + 1) + j = omega arith in
    (suc j, c, t, found, has, ap (λ n. (r, under_index at n)) z ∙ shown, with_first key before d ds j t (key_of key d) refl seen)

without_first : (key : Key) (before : Texts) (d : Data) (ds : Items) (j : ℕ) (t : List ℕ) → (before t ≡ true) ⊎ Earlier key (suc j) t (item d ds)
    → (with_text (key_of key d) before t ≡ true) ⊎ Earlier key j t ds
without_first key before d ds j t (inl h) = inl (among (key_of key d))
  where
    among : (o : Option (List ℕ)) → with_text o before t ≡ true
    among None = h
    among (Some u) = (either_true (bytes_eq t u) (before t)).1 (inr h)
without_first key before d ds j t (inr (zero, c, below, found, has)) =
    let same : d ≡ c = cc found in
    let e : key_of key d ≡ Some t = ap (key_of key) same ∙ has in
    inl (ap (λ o. with_text o before t) e ∙ (either_true (bytes_eq t t) (before t)).1 (inl ((bytes_eq-Decides t t).1 refl)))
without_first key before d ds j t (inr (suc k, c, below, found, has)) = inr (k, c, omega arith, found, has)

split_twin : (r : Rule) (key : Key) (at : List ℕ) (i : ℕ) (before : Texts) (d : Data) (ds : Items) (x : Told) → Twin r key at i before (item d ds) x
    → ((not (there_and before (key_of key d)) ≡ false) × ((r, under_index at i) ≡ x)) ⊎ Twin r key at (i + 1) (with_text (key_of key d) before) ds x
split_twin r key at i before d ds x (zero, c, t, found, has, shown, inl seen) =
    let same : d ≡ c = cc found in
    let e : key_of key d ≡ Some t = ap (key_of key) same ∙ has in
    let z : i ≡ i + 0 = omega arith in
    inl (ap (λ o. not (there_and before o)) e ∙ (not_true (before t)).1 seen, ap (λ n. (r, under_index at n)) z ∙ shown)
split_twin r key at i before d ds x (zero, c, t, found, has, shown, inr earlier) = let (k, e, below, found', has') = earlier in absurd (omega arith)
split_twin r key at i before d ds x (suc j, c, t, found, has, shown, seen) =
    let z : (i + 1) + j ≡ i + suc j = omega arith in
    inr (j, c, t, found, has, ap (λ n. (r, under_index at n)) z ∙ shown, without_first key before d ds j t seen)

twins_in : (r : Rule) (key : Key) (at : List ℕ) (i : ℕ) (before : Texts) (ds : Items) (x : Told) → Contains (twins r key at i before ds) x ↔ Twin r key at i before ds x
twins_in r key at i before no_items x = ((λ h. nothing_in x h), (λ h. let (j, c, t, found, has, shown, seen) = h in no_some c found))
twins_in r key at i before (item d ds) x =
    let one = in_unless (not (there_and before (key_of key d))) r (under_index at i) x in
    let rest = twins_in r key at (i + 1) (with_text (key_of key d) before) ds x in
    let both = in_both (unless (not (there_and before (key_of key d))) r (under_index at i)) (twins r key at (i + 1) (with_text (key_of key d) before) ds) x _ _ one rest in
    ((λ h. joined (both.0 h)), (λ h. both.1 (split_twin r key at i before d ds x h)))
  where
    joined : ((not (there_and before (key_of key d)) ≡ false) × ((r, under_index at i) ≡ x)) ⊎ Twin r key at (i + 1) (with_text (key_of key d) before) ds x → Twin r key at i before (item d ds) x
    joined (inl h) = first_twin r key at i before d ds x (key_of key d) refl h
    joined (inr h) = later_twin r key at i before d ds x h

-- a twin of an item of the list
abbrev pub IsTwin : Rule → Key → List ℕ → Items → Told → Type 0
IsTwin r key at ds x = (j : ℕ) × (c : Data) × (t : List ℕ) × (get_item j ds ≡ Some c) × (key_of key c ≡ Some t) × ((r, under_index at j) ≡ x) × Earlier key j t ds

pub twins_found : (r : Rule) (key : Key) (at : List ℕ) (ds : Items) (x : Told) → Contains (twins r key at 0 no_text ds) x ↔ IsTwin r key at ds x
twins_found r key at ds x =
    let all = twins_in r key at 0 no_text ds x in
    ((λ h. there (all.0 h)), (λ h. all.1 (back h)))
  where
    there : Twin r key at 0 no_text ds x → IsTwin r key at ds x
    there (j, c, t, found, has, shown, inl seen) = absurd (true≢false (sym seen))
    there (j, c, t, found, has, shown, inr earlier) = let z : j ≡ 0 + j = omega arith in (j, c, t, found, has, ap (λ n. (r, under_index at n)) z ∙ shown, earlier)

    back : IsTwin r key at ds x → Twin r key at 0 no_text ds x
    back h =
        let (j, c, t, found, has, shown, earlier) = h in
        let z : 0 + j ≡ j = omega arith in
        (j, c, t, found, has, ap (λ n. (r, under_index at n)) z ∙ shown, inr earlier)
