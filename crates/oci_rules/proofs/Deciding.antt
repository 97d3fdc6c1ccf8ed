-- Conditions and tests come to what they ask.
use Rattle.std.proofs.Common.{◌≡◌, ◌≢◌, ◌∙◌, ne_eqb, ℕ, ◌<◌, ◌≤◌, List, [], ◌∷◌, Bool, true, false, not, ◌&&◌, ◌||◌, length, drop, ℤ, Option, Some, None, IfSome, is_some, refl, sym, subst, true≢false, leb-true, le-leb, arith}
use Rattle.std.specs.Prelude.{zero, suc, ◌≤ℤ◌, T, ◌==◌, int_le, nat_le, bytes_eq, IsSomeAnd, IsTrue}
use Rattle.std.specs.Bool.{Decides, beq}
use Rattle.std.specs.Cmp.{booleans_Decides}
use Rattle.std.specs.Int.Signed.{le_z_yes}
use Rattle.std.specs.List.{list_any, list_all}
use Rattle.std.proofs.lemmas.Bool.Decides.{Decides-and, Decides-or, Decides-not, Decides-like, Decides-eqb}
use Rattle.std.proofs.lemmas.Slice.Eq.{bytes_eq-Decides, starts_is}
use Rattle.serde_json.specs.Data.{Data, null, boolean, number, string, array, object, Items, no_items, item}
use Rattle.serde_json.specs.Events.{items_len}
use Rattle.serde_json.specs.Find.{as_bool, as_null, as_str, as_array, get}
use Rattle.oci_model.specs.Means.{as_whole}
use Rattle.oci_base.specs.Names.{is_listed}
use Rattle.oci_grammars.specs.DecidedNesting.{is_inside}
use Rattle.oci_grammars.specs.Nesting.{IsInside}
use Rattle.oci_grammars.proofs.NestedPaths.{is_inside_decides}
use Rattle.oci_rules.specs.Rules.{Check, is_there, is_text, is_truth, is_within, has_text, has_item, Condition, asks}
use Rattle.oci_rules.specs.Parts.{present, led, text_at, without}
use Rattle.oci_rules.specs.Tests.{EachItem, SomeItem, IsApart, EachName, SomeName, IsThere, IsAbsent, IsSet, IsOneOf, IsWithin, IsItem, IsSo, Asked, origin_in, Holds, BeginsWith}
use Rattle.oci_rules.specs.Decided.{if_any, there_and, some_item, has, lacks, is_empty, is_set, is_unset, has_null, is_as_many, all_items, is_apart, are_apart, is_one_of, is_in, is_item, is_so, holds, begins_with}

pub clash : {P : Type 0} → false ≡ true → P
clash e = absurd (true≢false (sym e))

-- ---- values that may be absent

pub if_any_tells : {A : Type 0} (f : A → Bool) (P : A → Type 0) → ((x : A) → Decides (f x) (P x)) → (o : Option A) → Decides (if_any f o) (IfSome o P)
if_any_tells f P is None = ((λ e. tt), (λ h. refl))
if_any_tells f P is (Some x) = is x

pub there_and_tells : {A : Type 0} (f : A → Bool) (P : A → Type 0) → ((x : A) → Decides (f x) (P x)) → (o : Option A) → Decides (there_and f o) (IsSomeAnd o P)
there_and_tells f P is None = ((λ e. clash e), (λ h. absurd h))
there_and_tells f P is (Some x) = is x

none_tells : {A : Type 0} (o : Option A) → Decides (not (is_some o)) (o ≡ None)
none_tells None = ((λ e. refl), (λ h. refl))
none_tells (Some x) = ((λ e. clash e), (λ h. cc h))

pub itself : (b : Bool) → Decides b (IsTrue b)
itself b = ((λ e. e), (λ h. h))

-- ---- items and names

pub some_item_tells : (f : Data → Bool) (P : Data → Type 0) → ((d : Data) → Decides (f d) (P d)) → (ds : Items) → Decides (some_item f ds) (SomeItem P ds)
some_item_tells f P is no_items = ((λ e. clash e), (λ h. absurd h))
some_item_tells f P is (item d ds) = Decides-or (f d) (some_item f ds) (is d) (some_item_tells f P is ds)

each_name_tells : (f : List ℕ → Bool) (P : List ℕ → Type 0) → ((n : List ℕ) → Decides (f n) (P n)) → (ns : List (List ℕ)) → Decides (list_all f ns) (EachName P ns)
each_name_tells f P is [] = ((λ e. tt), (λ h. refl))
each_name_tells f P is (n ∷ ns) = Decides-and (f n) (list_all f ns) (is n) (each_name_tells f P is ns)

pub some_name_tells : (f : List ℕ → Bool) (P : List ℕ → Type 0) → ((n : List ℕ) → Decides (f n) (P n)) → (ns : List (List ℕ)) → Decides (list_any f ns) (SomeName P ns)
some_name_tells f P is [] = ((λ e. clash e), (λ h. absurd h))
some_name_tells f P is (n ∷ ns) = Decides-or (f n) (list_any f ns) (is n) (some_name_tells f P is ns)

pub has_tells : (d : Data) (name : List ℕ) → Decides (has d name) (IsThere name d)
has_tells d name = itself (is_some (present name d))

pub lacks_tells : (d : Data) (name : List ℕ) → Decides (lacks d name) (IsAbsent name d)
lacks_tells d name = none_tells (present name d)

empty_text_tells : (o : Option (List ℕ)) → Decides (there_and (λ t. length t == 0) o) (o ≡ Some [])
empty_text_tells None = ((λ e. clash e), (λ h. cc h))
empty_text_tells (Some []) = ((λ e. refl), (λ h. refl))
empty_text_tells (Some (b ∷ t)) = ((λ e. absurd (true≢false (sym e ∙ ne_eqb (length (b ∷ t)) 0 (omega arith)))), (λ h. cc h))

set_tells : (d : Data) (name : List ℕ) → Decides (is_set d name) (IsSet name d)
set_tells d name =
    there_and_tells (λ c. not (is_empty c)) (λ c. as_str c ≢ Some []) (λ c. Decides-not (is_empty c) (empty_text_tells (as_str c))) (present name d)

null_tells : (o : Option Data) → Decides (there_and (λ c. is_some (as_null c)) o) (o ≡ Some null)
null_tells None = ((λ e. clash e), (λ h. cc h))
null_tells (Some null) = ((λ e. refl), (λ h. refl))
null_tells (Some (boolean b)) = ((λ e. clash e), (λ h. cc h))
null_tells (Some (number n)) = ((λ e. clash e), (λ h. cc h))
null_tells (Some (string t)) = ((λ e. clash e), (λ h. cc h))
null_tells (Some (array ds)) = ((λ e. clash e), (λ h. cc h))
null_tells (Some (object ms)) = ((λ e. clash e), (λ h. cc h))

pub not_null_tells : (name : List ℕ) (d : Data) → Decides (not (has_null name d)) (get name d ≢ Some null)
not_null_tells name d = Decides-not (has_null name d) (null_tells (get name d))

pub one_of_tells : (ts : List (List ℕ)) (d : Data) → Decides (is_one_of ts d) (IsOneOf ts d)
one_of_tells ts d = there_and_tells (is_listed ts) (λ t. IsTrue (is_listed ts t)) (λ t. itself (is_listed ts t)) (as_str d)

-- ---- numbers and truths

held : (b : Bool) → T b → b ≡ true
held true h = refl
held false h = absurd h

pub int_tells : (x y : ℤ) → Decides (int_le x y) (x ≤ℤ y)
int_tells x y = ((λ e. le_z_yes (subst T (sym e) tt)), (λ h. held _ h.le))

pub nat_tells : (x y : ℕ) → Decides (nat_le x y) (x ≤ y)
nat_tells x y = ((λ e. leb-true x y e), (λ h. le-leb x y h))

above : (n : ℕ) → (n ≡ 0 → ⊥) → 0 < n
above zero h = absurd (h refl)
above (suc n) h = omega arith

apart : (n : ℕ) → 0 < n → n ≡ 0 → ⊥
apart n lt e = omega arith

pub some_tells : (n : ℕ) → Decides (not (n == 0)) (0 < n)
some_tells n = Decides-like (not (n == 0)) (above n) (apart n) (Decides-not (n == 0) (Decides-eqb n 0))

pub in_tells : (low high z : ℤ) → Decides (is_in low high z) (IsWithin low high z)
in_tells low high z = Decides-and (int_le low z) (int_le z high) (int_tells low z) (int_tells z high)

truth_tells : (b : Bool) (o : Option Bool) → Decides (there_and (beq b) o) (o ≡ Some b)
truth_tells b None = ((λ e. clash e), (λ h. cc h))
truth_tells b (Some c) = let same = booleans_Decides b c in ((λ e. let s = same.0 e in cc s), (λ h. same.1 (cc h)))

-- ---- conditions

item_tells : (name : List ℕ) (ts with without : List (List ℕ)) (d : Data) → Decides (is_item name ts with without d) (IsItem name ts with without d)
item_tells name ts with without d =
    Decides-and (there_and (is_listed ts) (text_at name d)) (list_all (is_set d) with && list_all (is_unset d) without)
    (there_and_tells (is_listed ts) (λ t. IsTrue (is_listed ts t)) (λ t. itself (is_listed ts t)) (text_at name d))
    (Decides-and (list_all (is_set d) with) (list_all (is_unset d) without) (each_name_tells (is_set d) (λ n. IsSet n d) (set_tells d) with)
    (each_name_tells (is_unset d) (λ n. ¬ IsSet n d) (λ n. Decides-not (is_set d n) (set_tells d n)) without))

so_tells : (check : Check) (d : Data) → Decides (is_so check d) (IsSo check d)
so_tells is_there d = ((λ e. tt), (λ h. refl))
so_tells (is_text ts) d = one_of_tells ts d
so_tells (is_truth b) d = truth_tells b (as_bool d)
so_tells (is_within low high) d = there_and_tells (is_in low high) (IsWithin low high) (in_tells low high) (as_whole d)
so_tells (has_text ts) d = there_and_tells (some_item (is_one_of ts)) (SomeItem (IsOneOf ts)) (some_item_tells (is_one_of ts) (IsOneOf ts) (one_of_tells ts)) (as_array d)
so_tells (has_item name ts with without) d =
    there_and_tells (some_item (is_item name ts with without)) (SomeItem (IsItem name ts with without))
    (some_item_tells (is_item name ts with without) (IsItem name ts with without) (item_tells name ts with without)) (as_array d)

asked_tells : (wanted b : Bool) (P : Type 0) → Decides b P → Decides (beq wanted b) (Asked wanted P)
asked_tells true true P is = ((λ e. is.0 refl), (λ h. refl))
asked_tells true false P is = ((λ e. clash e), (λ h. is.1 h))
asked_tells false true P is = ((λ e. clash e), (λ h. absurd (h (is.0 refl))))
asked_tells false false P is = ((λ e p. true≢false (sym (is.1 p))), (λ h. refl))

pub holds_tells : (root : Data) (c : Condition) (d : Data) → Decides (holds root c d) (Holds root c d)
holds_tells root (asks origin way wanted check) d =
    let found : Option Data = led way (origin_in origin root d) in
    asked_tells wanted (there_and (is_so check) found) (IsSomeAnd found (IsSo check)) (there_and_tells (is_so check) (IsSo check) (so_tells check) found)

-- ---- numbers of items

pub as_many_tells : (name : List ℕ) (x y : Option Items) → Decides (is_as_many name x y) (IfSome x (λ ds. IfSome y (λ es. without name ds ≡ items_len es)))
as_many_tells name x y =
    if_any_tells (λ ds. if_any (λ es. without name ds == items_len es) y) (λ ds. IfSome y (λ es. without name ds ≡ items_len es))
    (λ ds. if_any_tells (λ es. without name ds == items_len es) (λ es. without name ds ≡ items_len es) (λ es. Decides-eqb (without name ds) (items_len es)) y) x

-- ---- paths

pub all_items_tells : (f : Data → Bool) (P : Data → Type 0) → ((d : Data) → Decides (f d) (P d)) → (ds : Items) → Decides (all_items f ds) (EachItem P ds)
all_items_tells f P is no_items = ((λ e. tt), (λ h. refl))
all_items_tells f P is (item d ds) = Decides-and (f d) (all_items f ds) (is d) (all_items_tells f P is ds)

apart_tells : (name : List ℕ) (c e : Data) → Decides (is_apart name c e) (IsApart name c e)
apart_tells name c e =
    if_any_tells (λ s. if_any (λ t. not (is_inside s t)) (text_at name e)) (λ s. IfSome (text_at name e) (λ t. ¬ IsInside s t))
    (λ s. if_any_tells (λ t. not (is_inside s t)) (λ t. ¬ IsInside s t) (λ t. Decides-not (is_inside s t) (is_inside_decides s t)) (text_at name e)) (text_at name c)

pub all_apart_tells : (name : List ℕ) (o : Option Items) → Decides (if_any (λ ds. are_apart name ds ds) o) (IfSome o (λ ds. EachItem (λ c. EachItem (IsApart name c) ds) ds))
all_apart_tells name o =
    if_any_tells (λ ds. are_apart name ds ds) (λ ds. EachItem (λ c. EachItem (IsApart name c) ds) ds)
    (λ ds. all_items_tells (λ c. all_items (is_apart name c) ds) (λ c. EachItem (IsApart name c) ds) (λ c. all_items_tells (is_apart name c) (IsApart name c) (apart_tells name c) ds) ds) o

-- ---- texts

pub begins_tells : (front t : List ℕ) → Decides (begins_with front t) (BeginsWith front t)
begins_tells front t =
    let is = starts_is Decides-eqb t front (begins_with front t) refl in
    ((λ e. (drop (length front) t, is.0 e)), (λ h. is.1 h.0 h.1))

pub text_tells : (t : List ℕ) (o : Option (List ℕ)) → Decides (there_and (bytes_eq t) o) (o ≡ Some t)
text_tells t None = ((λ e. clash e), (λ h. cc h))
text_tells t (Some u) = let same = bytes_eq-Decides t u in ((λ e. let s = same.0 e in cc s), (λ h. same.1 (cc h)))

-- where the first is so, the second is
pub then_tells : (a b : Bool) (P Q : Type 0) → Decides a P → Decides b Q → Decides (not a || b) (P → Q)
then_tells true b P Q is other = ((λ e p. other.0 e), (λ h. other.1 (h (is.0 refl))))
then_tells false b P Q is other = ((λ e p. absurd (true≢false (sym (is.1 p)))), (λ h. refl))
