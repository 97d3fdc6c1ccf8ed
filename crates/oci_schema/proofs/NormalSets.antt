-- Sets of capabilities in their normal form: item by item along the table, and as arrays of strings.
use Rattle.std.proofs.Common.{◌≡◌, ℕ, suc, ◌+◌, ◌<◌, List, [], ◌∷◌, ◌++◌, length, map, drop, slice_index_or, Bool, true, false, Option, Some, None, refl, sym, ap, ◌∙◌, subst}
use Rattle.std.specs.Prelude.{MatchOption}
use Rattle.json.specs.Token.{Token}
use Rattle.serde_json.specs.Data.{Data, string, array, Items, no_items, item}
use Rattle.oci_base.specs.Capabilities.{cap}
use Rattle.oci_json.proofs.Capabilities.{set_read}
use Rattle.oci_model.specs.Plain as plain
use Rattle.oci_model.specs.Shape.{text, list, cap_set}
use Rattle.oci_model.specs.Value.{capability_texts}
use Rattle.oci_json_tape.specs.Elements.{BeginsWithData, FindsData}
use Rattle.oci_json_tape.specs.Walked.{InItemsData, NextItemData}
use Rattle.oci_text.specs.Capability.{capability_name, capability_table, all_capability}
use Rattle.oci_text.specs.declared.capability.Capability.{Capability}
use Rattle.oci_schema.specs.Normalized.{accepts, normalized, each_normalized}
use Rattle.oci_schema.proofs.Listed.{drop_at}
use Rattle.oci_schema.proofs.NormalForms.{told}
use Rattle.oci_schema.specs.Walks.{WritesTree, IsNormalSet}
use Rattle.oci_schema.proofs.Written.{Wrote}

-- the next item, and the rest of them
abbrev pub AreLeft : Option (List Token) → List Token → Items → Type 0
AreLeft next rest ds = MatchOption next (ds ≡ no_items) (λ ts. (d : Data) × (more : Items) × (ds ≡ item d more) × BeginsWithData ts d × InItemsData rest more)

-- if the items that are left are the texts of some of these capabilities, all are a set
abbrev pub SetSoFar : Data → List Capability → Option (List Token) → List Token → Type 0
SetSoFar d cs next rest = (ds : Items) × AreLeft next rest ds × ((bs : List Bool) → length bs ≡ length cs → ds ≡ capability_texts (map capability_name cs) bs → IsNormalSet d)

pub set_begins : (d : Data) (all rest : List Token) (next : Option (List Token)) → (ds : Items) × (d ≡ array ds) × InItemsData all ds → NextItemData all next rest → SetSoFar d all_capability next rest
set_begins d all rest next (ds, is, at) step = (ds, step ds at, λ bs e same. (bs, e, is ∙ ap array same))

set_without : (d : Data) (c : Capability) (cs : List Capability) (next : Option (List Token)) (rest : List Token) → SetSoFar d (c ∷ cs) next rest → SetSoFar d cs next rest
set_without d c cs next rest (ds, left, is) = (ds, left, λ bs e same. is (false ∷ bs) (ap suc e) same)

set_with : (d : Data) (c : Capability) (cs : List Capability) (next after : Option (List Token)) (rest left : List Token)
    → ((o : Option Data) → FindsData next o → o ≡ Some (string (cap ++ capability_name c))) → NextItemData rest after left → SetSoFar d (c ∷ cs) next rest → SetSoFar d cs after left
set_with d c cs None after rest left named step (ds, none, is) = let k = named None refl in cc
set_with d c cs (Some ts) after rest left named step (ds, (x, more, split, begins, at), is) =
    let same : Some x ≡ Some (string (cap ++ capability_name c)) = named (Some x) (x, refl, begins) in
    let one : x ≡ string (cap ++ capability_name c) = cc in
    (more, step more at, λ bs e others. is (true ∷ bs) (ap suc e) (split ∙ ap (λ y. item y more) one ∙ ap (item (string (cap ++ capability_name c))) others))

-- the capability at an index is no item, or the next one
pub without_at : (d : Data) (i : ℕ) (c : Capability) (next : Option (List Token)) (rest : List Token) → i < length all_capability → SetSoFar d (drop i all_capability) next rest
    → SetSoFar d (drop (i + 1) all_capability) next rest
without_at d i c next rest below h =
    set_without d (slice_index_or all_capability i c) (drop (i + 1) all_capability) next rest (subst (λ cs. SetSoFar d cs next rest) (drop_at all_capability i c below) h)

pub with_at : (d : Data) (i : ℕ) (c : Capability) (next after : Option (List Token)) (rest left : List Token) → i < length all_capability
    → ((o : Option Data) → FindsData next o → o ≡ Some (string (cap ++ capability_name (slice_index_or all_capability i c)))) → NextItemData rest after left → SetSoFar d (drop i all_capability) next rest
    → SetSoFar d (drop (i + 1) all_capability) after left
with_at d i c next after rest left below named step h =
    set_with d (slice_index_or all_capability i c) (drop (i + 1) all_capability) next after rest left named step (subst (λ cs. SetSoFar d cs next rest) (drop_at all_capability i c below) h)

pub set_ends : (d : Data) (rest : List Token) → SetSoFar d [] None rest → IsNormalSet d
set_ends d rest (ds, none, is) = is [] refl none

each_string : (ds : Items) → each_normalized (normalized text) ds ≡ ds
each_string no_items = refl
each_string (item d ds) = ap (item d) (each_string ds)

-- as an array of strings it was written as a set
pub set_written : (d : Data) (old new : List Token) → IsNormalSet d → Wrote (list text) old new d → Wrote (cap_set capability_table) old new d
set_written d old new (bs, e, is) (taken, wrote) =
    let ds = capability_texts capability_table bs in
    let read = set_read capability_table bs refl e in
    let t = told (cap_set capability_table) (array ds) (plain.set bs) (ds, bs, refl, refl, read.0, read.1) tt in
    let as_list : normalized (list text) d ≡ array ds = ap (normalized (list text)) is ∙ ap array (each_string ds) in
    let as_set : normalized (cap_set capability_table) d ≡ array ds = ap (normalized (cap_set capability_table)) is ∙ t.1 in
    (ap (accepts (cap_set capability_table)) is ∙ t.0, subst (λ x. WritesTree x old new) (as_list ∙ sym as_set) wrote)
