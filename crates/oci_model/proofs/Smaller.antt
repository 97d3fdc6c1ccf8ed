-- What is taken out of an object and what is left of it are no larger together than the object was.
use Rattle.std.proofs.Common.{◌≡◌, ℕ, ◌+◌, ◌≤◌, List, [], ◌∷◌, Bool, true, false, cond, Option, Some, arith, option_map, string_bytes, nat_cmp}
use Rattle.std.specs.Cmp.Lexicographic.{slice_cmp}
use Rattle.std.specs.Map.{lookup, remove_entry}
use Rattle.std.specs.BTreeMap.{is_at}
use Rattle.serde_json.specs.View.{view, members_view}
use Rattle.serde_json.proofs.Views.{Entry}
use Rattle.serde_json.specs.declared.value.Value.{Value}
use Rattle.oci_model.specs.Sizes.{members_size, found_size}

-- what is removed and what is left are no larger together than what was there
abbrev Parted : List Entry → Option Value → List Entry → Type 0
Parted es r fs = found_size (option_map view r) + members_size (members_view fs) ≤ members_size (members_view es)

parted_by : (b : Bool) (e : Entry) (es : List Entry) (r : Option Value) (fs : List Entry) → Parted es r fs → Parted (e ∷ es) (cond b (Some e.1) r) (cond b es (e ∷ fs))
parted_by true e es r fs h = omega arith
parted_by false e es r fs h = omega (arith, h)

parted : (test : _) (es : List Entry) → Parted es (lookup test es) (remove_entry test es)
parted test [] = omega arith
parted test (e ∷ es) = parted_by (test e.0) e es (lookup test es) (remove_entry test es) (parted test es)

pub taken_smaller : (name : List ℕ) (es fs : List Entry) (r : Option Value) → r ≡ lookup (is_at (λ k. slice_cmp nat_cmp name (string_bytes k))) es
    → fs ≡ remove_entry (is_at (λ k. slice_cmp nat_cmp name (string_bytes k))) es → Parted es r fs
taken_smaller name es fs r e f = rw (e, f) (parted (is_at (λ k. slice_cmp nat_cmp name (string_bytes k))) es)
