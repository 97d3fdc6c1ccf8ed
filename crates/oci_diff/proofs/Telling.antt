-- What a list of differences tells, as it grows.
use Rattle.std.proofs.Common.{◌≡◌, ◌≤◌, ◌<◌, ◌+◌, ◌⊎◌, inl, inr, ℕ, List, [], ◌∷◌, ◌++◌, length, get_or, map, Bool, true, false, Option, Some, refl, sym, ap, ◌∙◌, subst, below_more, arith}
use Rattle.std.proofs.lemmas.List.{map-append}
use Rattle.std.proofs.lemmas.List.Elements.{Contains-append_left, Contains-append_right}
use Rattle.std.specs.List.{Contains}
use Rattle.serde_json.specs.Data.{Data, array, object, Items, Members, no_members, member}
use Rattle.serde_json.specs.Events.{items_len}
use Rattle.serde_json.specs.Find.{get_item}
use Rattle.serde_json.specs.View.{items_view}
use Rattle.serde_json.specs.declared.value.Value.{Value}
use Rattle.serde_json.proofs.Views.{items_len-items_view}
use Rattle.oci_schema.specs.Leads.{Have}
use Rattle.oci_schema.specs.Places.{under_name, under_index}
use Rattle.oci_diff.specs.Aligned.{AreAligned}
use Rattle.oci_diff.specs.Best.{IsLongest}
use Rattle.oci_diff.specs.Tells.{added, removed, changed, Told, told, Tells, replaced, by_members, by_items, have_parts, IsAmong, AddsTold, TellsMember, TellsMembers, TellsNewMembers, TellsStep}
use Rattle.oci_diff.specs.declared.aligned.Step.{Step}
use Rattle.oci_diff.specs.declared.aligned.Step.TheVariants.{Both, First, Second}
use Rattle.oci_diff.specs.declared.changes.Difference.{Difference}

-- ---- one after the other

pub told_by : (P Q : List Told → Type 0) (xs ys : List Difference) → ((list : List Told) → P list → Q list) → AddsTold P xs ys → AddsTold Q xs ys
told_by P Q xs ys w f list h = let a = f list h in (a.0, w list a.1)

pub told_already : (P : List Told → Type 0) (xs ys : List Difference) → ys ≡ xs → ((list : List Told) → P list) → AddsTold P xs ys
told_already P xs ys is p list h = (subst (λ zs. IsAmong (map told zs) list) is h, p list)

-- one more
pub told_one : (xs ys : List Difference) (x : Difference) (t : Told) → ys ≡ xs ++ x ∷ [] → told x ≡ t → AddsTold (λ list. Contains list t) xs ys
told_one xs ys x t is same list h =
    let more : map told ys ≡ map told xs ++ told x ∷ [] = ap (λ zs. map told zs) is ∙ map-append told xs (x ∷ []) in
    let all : IsAmong (map told xs ++ told x ∷ []) list = subst (λ zs. IsAmong zs list) more h in (
      λ y c. all y (Contains-append_left (map told xs) (told x ∷ []) y c),
      subst (λ y. Contains list y) same (all (told x) (Contains-append_right (map told xs) (told x ∷ []) (told x) (0, omega arith, refl))),
    )

-- ---- members

-- a member is still to be looked at, or this holds of it
abbrev pub Left : (List ℕ → Data → Type 0) → Members → List ℕ → Data → Type 0
Left F ms name c = Have ms name c ⊎ F name c

first_looked_at : (F : List ℕ → Data → Type 0) (rest : Members) (k : List ℕ) (d : Data) → F k d → (name : List ℕ) (c : Data) → Left F (member k d rest) name c → Left F rest name c
first_looked_at F rest k d here name c (inl (inl is)) = inr (subst (λ n. F n c) (sym is.0) (subst (λ x. F k x) (sym is.1) here))
first_looked_at F rest k d here name c (inl (inr later)) = inl later
first_looked_at F rest k d here name c (inr done) = inr done

-- one member more of those that are looked at in turn
pub next_told : (F : List Told → List ℕ → Data → Type 0) (all ms rest : Members) (k q : List ℕ) (d : Data) (xs ys zs : List Difference) → ms ≡ member k d rest → q ≡ k
    → AddsTold (λ list. (name : List ℕ) (c : Data) → Have all name c → Left (F list) ms name c) xs ys → AddsTold (λ list. F list q d) ys zs
    → AddsTold (λ list. (name : List ℕ) (c : Data) → Have all name c → Left (F list) rest name c) xs zs
next_told F all ms rest k q d xs ys zs split is f g list h =
    let b = g list h in
    let a = f list b.0 in
    let here : F list k d = subst (λ n. F list n d) is b.1 in
    (a.0, λ name c have. first_looked_at (F list) rest k d here name c (subst (λ m. Left (F list) m name c) split (a.1 name c have)))

none_left : (F : List ℕ → Data → Type 0) (name : List ℕ) (c : Data) → Left F no_members name c → F name c
none_left F name c (inl h) = absurd h
none_left F name c (inr done) = done

pub all_told : (F : List Told → List ℕ → Data → Type 0) (all ms : Members) (xs ys : List Difference) → ms ≡ no_members
    → AddsTold (λ list. (name : List ℕ) (c : Data) → Have all name c → Left (F list) ms name c) xs ys → AddsTold (λ list. (name : List ℕ) (c : Data) → Have all name c → F list name c) xs ys
all_told F all ms xs ys is f list h =
    let a = f list h in
    (a.0, λ name c have. none_left (F list) name c (subst (λ m. Left (F list) m name c) is (a.1 name c have)))

-- of two objects
pub objects_told : (list : List Told) (at : List ℕ) (ms ns : Members) → TellsMembers list at ms (object ns) → TellsNewMembers list at (object ms) ns → Tells list at (object ms) (object ns)
objects_told list at ms ns old new =
    by_members
    (λ name c b have is. subst (λ o. TellsMember list (under_name at name) c o) is (old name c have))
    (λ name c have is. subst (λ o. TellsMember list (under_name at name) c o) is (old name c have))
    new

-- ---- items

-- one step more of those that are looked at in turn
pub next_step_told : (at : List ℕ) (ds es : Items) (steps : List Step) (i : ℕ) (s : Step) (xs ys zs : List Difference) → ((d : Step) → s ≡ get_or steps i d)
    → AddsTold (λ list. (k : ℕ) (d : Step) → k < i → TellsStep list at ds es (get_or steps k d)) xs ys → AddsTold (λ list. TellsStep list at ds es s) ys zs
    → AddsTold (λ list. (k : ℕ) (d : Step) → k < i + 1 → TellsStep list at ds es (get_or steps k d)) xs zs
next_step_told at ds es steps i s xs ys zs is f g list h =
    let b = g list h in
    let a = f list b.0 in
    (a.0, λ k d. below_more (λ n. TellsStep list at ds es (get_or steps n d)) i (λ n. a.1 n d) (subst (λ x. TellsStep list at ds es x) (is d) b.1) k)

one_step_told : (list : List Told) (at : List ℕ) (ds es : Items) (steps : List Step) (s : Step) → ((k : ℕ) (d : Step) → k < length steps → TellsStep list at ds es (get_or steps k d))
    → Contains steps s → TellsStep list at ds es s
one_step_told list at ds es steps s all c = subst (λ x. TellsStep list at ds es x) c.2 (all c.0 s c.1)

-- of two arrays
pub arrays_told : (list : List Told) (at : List ℕ) (ds es : Items) (steps : List Step) → AreAligned steps ds es → (items_len ds ≤ 64 → items_len es ≤ 64 → IsLongest steps ds es)
    → ((k : ℕ) (d : Step) → k < length steps → TellsStep list at ds es (get_or steps k d)) → Tells list at (array ds) (array es)
arrays_told list at ds es steps aligned longest all =
    by_items steps aligned longest
    (λ i c b there. one_step_told list at ds es steps (Both i) all there c b)
    (λ i c there. one_step_told list at ds es steps (First i) all there c)
    (λ i b there. one_step_told list at ds es steps (Second i) all there b)

pub values_told : (at : List ℕ) (vs ws : List Value) (steps : List Step) (i : ℕ) (xs ys : List Difference) → AreAligned steps (items_view vs) (items_view ws)
    → (length vs ≤ 64 → length ws ≤ 64 → IsLongest steps (items_view vs) (items_view ws)) → length steps ≤ i
    → AddsTold (λ list. (k : ℕ) (d : Step) → k < i → TellsStep list at (items_view vs) (items_view ws) (get_or steps k d)) xs ys
    → AddsTold (λ list. Tells list at (array (items_view vs)) (array (items_view ws))) xs ys
values_told at vs ws steps i xs ys aligned longest end f list h =
    let a = f list h in (
      a.0,
      arrays_told list at (items_view vs) (items_view ws) steps aligned
          (λ few fewer. longest (subst (λ x. x ≤ 64) (items_len-items_view vs) few) (subst (λ x. x ≤ 64) (items_len-items_view ws) fewer))
          (λ k d lt. a.1 k d (omega arith)),
    )

-- ---- two values: what differs in their parts, or in the whole

told_by_test : (b : Bool) (list : List Told) (at : List ℕ) (d e : Data) → have_parts d e ≡ b → (have_parts d e ≡ true → Tells list at d e) → (have_parts d e ≡ false → Tells list at d e) → Tells list at d e
told_by_test true list at d e is parts whole = parts is
told_by_test false list at d e is parts whole = whole is

pub parts_told : (at : List ℕ) (d e : Data) (xs ys : List Difference) → (have_parts d e ≡ false → ⊥) → AddsTold (λ list. have_parts d e ≡ true → Tells list at d e) xs ys → AddsTold (λ list. Tells list at d e) xs ys
parts_told at d e xs ys some f list h = let a = f list h in (a.0, told_by_test (have_parts d e) list at d e refl a.1 (λ none. absurd (some none)))

pub whole_told : (at : List ℕ) (d e : Data) (xs ys zs : List Difference) → AddsTold (λ list. have_parts d e ≡ true → Tells list at d e) xs ys → AddsTold (λ list. Contains list (at, changed d e)) ys zs
    → AddsTold (λ list. Tells list at d e) xs zs
whole_told at d e xs ys zs f g list h =
    let b = g list h in
    let a = f list b.0 in
    (a.0, told_by_test (have_parts d e) list at d e refl a.1 (λ none. replaced none b.1))

-- ---- of two values what is told of their views

pub both_objects_told : (at : List ℕ) (d e : Data) (ms ns : Members) (xs ys zs : List Difference) → d ≡ object ms → e ≡ object ns
    → AddsTold (λ list. TellsMembers list at ms e) xs ys → AddsTold (λ list. TellsNewMembers list at d ns) ys zs → AddsTold (λ list. have_parts d e ≡ true → Tells list at d e) xs zs
both_objects_told at d e ms ns xs ys zs first second f g list h =
    let b = g list h in
    let a = f list b.0 in
    let old : TellsMembers list at ms (object ns) = subst (λ x. TellsMembers list at ms x) second a.1 in
    let new : TellsNewMembers list at (object ms) ns = subst (λ x. TellsNewMembers list at x ns) first b.1 in
    (a.0, λ both. subst (λ x. Tells list at x e) (sym first) (subst (λ x. Tells list at (object ms) x) (sym second) (objects_told list at ms ns old new)))

pub both_arrays_told : (at : List ℕ) (d e : Data) (ds es : Items) (xs ys : List Difference) → d ≡ array ds → e ≡ array es
    → AddsTold (λ list. Tells list at (array ds) (array es)) xs ys → AddsTold (λ list. have_parts d e ≡ true → Tells list at d e) xs ys
both_arrays_told at d e ds es xs ys first second f list h =
    let a = f list h in
    (a.0, λ both. subst (λ x. Tells list at x e) (sym first) (subst (λ x. Tells list at (array ds) x) (sym second) a.1))

-- ---- of a step

same_item : (o : Option Data) (x y : Data) → o ≡ Some x → o ≡ Some y → x ≡ y
same_item o x y p q = cc

pub pair_told : (at under : List ℕ) (ds es : Items) (i : ℕ) (s : Step) (x y : Data) (xs ys : List Difference) → under ≡ under_index at i → s ≡ Both i → get_item i ds ≡ Some x → get_item i es ≡ Some y
    → AddsTold (λ list. Tells list under x y) xs ys → AddsTold (λ list. TellsStep list at ds es s) xs ys
pair_told at under ds es i s x y xs ys is step first second f list h =
    let a = f list h in
    let here : Tells list (under_index at i) x y = subst (λ p. Tells list p x y) is a.1 in
    let both : TellsStep list at ds es (Both i) =
    λ c b p q. subst (λ z. Tells list (under_index at i) z b) (same_item (get_item i ds) x c first p) (subst (λ z. Tells list (under_index at i) x z) (same_item (get_item i es) y b second q) here) in
    (a.0, subst (λ z. TellsStep list at ds es z) (sym step) both)

pub first_alone_told : (at under : List ℕ) (ds es : Items) (i : ℕ) (s : Step) (x : Data) (xs ys : List Difference) → under ≡ under_index at i → s ≡ First i → get_item i ds ≡ Some x
    → AddsTold (λ list. Contains list (under, removed x)) xs ys → AddsTold (λ list. TellsStep list at ds es s) xs ys
first_alone_told at under ds es i s x xs ys is step first f list h =
    let a = f list h in
    let here : Contains list (under_index at i, removed x) = subst (λ p. Contains list (p, removed x)) is a.1 in
    let alone : TellsStep list at ds es (First i) = λ c p. subst (λ z. Contains list (under_index at i, removed z)) (same_item (get_item i ds) x c first p) here in
    (a.0, subst (λ z. TellsStep list at ds es z) (sym step) alone)

pub second_alone_told : (at under : List ℕ) (ds es : Items) (i : ℕ) (s : Step) (y : Data) (xs ys : List Difference) → under ≡ under_index at i → s ≡ Second i → get_item i es ≡ Some y
    → AddsTold (λ list. Contains list (under, added y)) xs ys → AddsTold (λ list. TellsStep list at ds es s) xs ys
second_alone_told at under ds es i s y xs ys is step second f list h =
    let a = f list h in
    let here : Contains list (under_index at i, added y) = subst (λ p. Contains list (p, added y)) is a.1 in
    let alone : TellsStep list at ds es (Second i) = λ b p. subst (λ z. Contains list (under_index at i, added z)) (same_item (get_item i es) y b second p) here in
    (a.0, subst (λ z. TellsStep list at ds es z) (sym step) alone)
