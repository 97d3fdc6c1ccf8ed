-- Parts that are their own normal form.
use Rattle.std.proofs.Common.{◌≡◌, refl, ap, ◌∙◌, sym, List, [], ◌∷◌, length, ℕ, true, false, Option, Some, None, is_some, option_map, nat_cmp, string_bytes, string_cmp, Less, rules}
use Rattle.std.specs.Prelude.{not, unwrap_or, ◌==◌}
use Rattle.std.specs.BTreeMap.{is_at}
use Rattle.std.specs.Cmp.Lexicographic.{slice_cmp}
use Rattle.std.specs.List.{AllByRecursion}
use Rattle.std.specs.List.Sorted.{IsStrictlySortedBy}
use Rattle.std.specs.Map.{keys_of, lookup}
use Rattle.std.proofs.Math.Dec.{eqb-suc-zero}
use Rattle.serde_json.specs.Data.{Data, null, boolean, number, string, array, object, Items, no_items, item, Members, no_members, member}
use Rattle.serde_json.specs.Find.{as_null, as_array, as_object, get_member}
use Rattle.serde_json.specs.Read.{read, max_depth}
use Rattle.serde_json.specs.Written.{compact_text}
use Rattle.serde_json.specs.View.{view, items_view, members_view}
use Rattle.serde_json.specs.declared.value.Value.{Value}
use Rattle.serde_json.proofs.Views.{Entry, view-lookup}
use Rattle.oci_model.specs.Means.{is_object, member_names}
use Rattle.oci_model.specs.Shape as shape
use Rattle.oci_model.specs.Shape.{Shape, key_set, detail}
use Rattle.oci_model.specs.Value.{with_text, sorted, empty_objects, is_empty_array}
use Rattle.oci_json.specs.Readable.{IsBefore, IsInOrder}
use Rattle.oci_json.proofs.ReadAgain.{compact_read}
use Rattle.oci_schema.specs.Allows.{allows, each_member_allowed}
use Rattle.oci_schema.proofs.Decides.{both}
use Rattle.oci_schema.specs.Normalized.{is_kept}
use Rattle.oci_schema.specs.Normal.{IsNormal, AreNormal, HoldNormal, AreEmptyObjects}
use Rattle.oci_schema.specs.Plain.{IsPlain, ArePlain, HoldPlain}

pub object_kept : (d : Data) (ms : Members) → as_object d ≡ Some ms → d ≡ object ms
object_kept null t e = cc
object_kept (boolean b) t e = cc
object_kept (number n) t e = cc
object_kept (string s) t e = cc
object_kept (array ds) t e = cc
object_kept (object ms) t e = cc

pub array_kept : (d : Data) (ds : Items) → Some ds ≡ as_array d → d ≡ array ds
array_kept null t e = cc
array_kept (boolean b) t e = cc
array_kept (number n) t e = cc
array_kept (string s) t e = cc
array_kept (array ds) t e = cc
array_kept (object ms) t e = cc

-- ---- arrays, and whether an object has a member

pub no_items_told : (d : Data) (vs : List Value) → Some (items_view vs) ≡ as_array d → (length vs == 0) ≡ is_empty_array d
no_items_told null vs e = cc
no_items_told (boolean b) vs e = cc
no_items_told (number n) vs e = cc
no_items_told (string s) vs e = cc
no_items_told (object ms) vs e = cc
no_items_told (array no_items) [] e = refl
no_items_told (array no_items) (v ∷ vs) e = cc
no_items_told (array (item d ds)) [] e = cc
no_items_told (array (item d ds)) (v ∷ vs) e = eqb-suc-zero (length vs)

pub no_list_told : (d : Data) → None ≡ as_array d → false ≡ is_empty_array d
no_list_told null e = refl
no_list_told (boolean b) e = refl
no_list_told (number n) e = refl
no_list_told (string s) e = refl
no_list_told (object ms) e = refl
no_list_told (array ds) e = cc

some_viewed : (o : Option Value) → is_some o ≡ is_some (option_map view o)
some_viewed None = refl
some_viewed (Some v) = refl

pub has_told : (name : List ℕ) (es : List Entry) → is_some (lookup (is_at (λ k. slice_cmp nat_cmp name (string_bytes k))) es) ≡ is_some (get_member name (members_view es))
has_told name es = some_viewed (lookup (is_at (λ k. slice_cmp nat_cmp name (string_bytes k))) es) ∙ ap is_some (view-lookup name es)

-- ---- maps

all_before : (e : Entry) (es : List Entry) → AllByRecursion (λ y. string_cmp e.0 y ≡ Less) (keys_of es) → IsBefore (string_bytes e.0) (members_view es)
all_before e [] h = tt
all_before e (x ∷ es) h = (h.0, all_before e es h.1)

-- a map's members are in order
pub in_order : (es : List Entry) → IsStrictlySortedBy string_cmp (keys_of es) → IsInOrder (members_view es)
unfolding IsStrictlySortedBy
in_order [] h = tt
in_order (e ∷ es) h = (all_before e es h.0, in_order es h.1)

-- ---- key sets

with_first : (k : List ℕ) (ms : Members) → IsBefore k ms → with_text k (member_names ms) ≡ k ∷ member_names ms
with_first k no_members h = refl
with_first k (member l d ms) h = rw h.0 refl

names_sorted : (ms : Members) → IsInOrder ms → sorted (member_names ms) ≡ member_names ms
names_sorted no_members h = refl
names_sorted (member k d ms) h = ap (with_text k) (names_sorted ms h.1) ∙ with_first k ms h.0

named_alone : (ms : Members) → AreEmptyObjects ms → empty_objects (member_names ms) ≡ ms
named_alone no_members h = refl
named_alone (member k d ms) h = rw (h.0, named_alone ms h.1) refl

are_objects : (ms : Members) → AreEmptyObjects ms → each_member_allowed is_object ms ≡ true
are_objects no_members h = refl
are_objects (member k d ms) h = rw h.0 (are_objects ms h.1)

keys_kept : (ms : Members) → IsInOrder ms → AreEmptyObjects ms → IsNormal key_set (object ms)
keys_kept ms order h = (are_objects ms h, ap (λ ks. object (empty_objects ks)) (names_sorted ms order) ∙ ap object (named_alone ms h))

pub keys_normal : (s : Shape) (d : Data) (ms : Members) → s ≡ key_set → Some ms ≡ as_object d → IsInOrder ms → AreEmptyObjects ms → IsNormal s d
keys_normal s d ms is there order h = let seen : d ≡ object ms = object_kept d ms (sym there) in rw (is, seen) (keys_kept ms order h)

-- ---- details

pub detail_normal : (s : Shape) (d : Data) → s ≡ detail → is_some (as_null d) ≡ false → IsPlain max_depth d → IsNormal s d
detail_normal s d is there h =
    let back : read (compact_text d) ≡ Some d = compact_read d h.0 h.1 h.2 in
    let allowed : allows detail d ≡ true = both _ _ (ap not there) (ap not h.2) in
    rw is (both _ _ allowed (ap is_kept back ∙ ap not h.2), ap (λ o. unwrap_or o null) back)

-- ---- arrays and maps

pub list_normal : (s t : Shape) (d : Data) (ds : Items) → s ≡ shape.list t → Some ds ≡ as_array d → AreNormal t ds → IsNormal s d
list_normal s t d ds is there h = let seen : d ≡ array ds = array_kept d ds there in rw (is, seen) (h.0, ap array h.1)

pub map_normal : (s t : Shape) (d : Data) (ms : Members) → s ≡ shape.map t → Some ms ≡ as_object d → HoldNormal t ms → IsNormal s d
map_normal s t d ms is there h = let seen : d ≡ object ms = object_kept d ms (sym there) in rw (is, seen) (h.0, ap object h.1)

-- ---- values that are parsed again from their text

pub item_plain : (n : ℕ) (d : Data) (ds : Items) → IsPlain n d → ArePlain n ds → ArePlain n (item d ds)
item_plain n d ds h t = search (rules, h, t)

pub member_plain : (n : ℕ) (k : List ℕ) (d : Data) (ms : Members) → IsPlain n d → HoldPlain n ms → HoldPlain n (member k d ms)
member_plain n k d ms h t = search (rules, h, t)
