-- What stands in a written object.
use Rattle.std.proofs.Common.{◌≡◌, ℕ, List, ◌∷◌, Bool, true, false, ◌||◌, Option, Some, None, bytes_eq, refl, ◌∙◌, sym, true≢false}
use Rattle.std.specs.List.{list_any}
use Rattle.std.proofs.lemmas.Slice.Eq.{bytes_eq-Decides}
use Rattle.serde_json.specs.Data.{Data, Members}
use Rattle.serde_json.specs.Find.{get_member}
use Rattle.serde_json.proofs.Views.{get_member-put, get_member-put_other}
use Rattle.oci_base.specs.Names.{is_listed}
use Rattle.oci_model.specs.Plain.{Slot, Slots, no_slots, slot}
use Rattle.oci_model.specs.Shape.{Presence, Shape, Rows, no_rows, row, with_second, names}
use Rattle.oci_model.specs.Value.{value, with_member, member_value, with_rows}

-- a text that a table lacks is none of its texts
pub not_listed : (t u : List ℕ) (us : List (List ℕ)) → is_listed (u ∷ us) t ≡ false → (t ≡ u → ⊥) × (is_listed us t ≡ false)
not_listed t u us e = here (bytes_eq t u) refl e
  where
    here : (b : Bool) → bytes_eq t u ≡ b → (b || list_any (bytes_eq t) us) ≡ false → (t ≡ u → ⊥) × (is_listed us t ≡ false)
    here true same k = absurd (true≢false k)
    here false differ k = (λ eq. true≢false (sym ((bytes_eq-Decides t u).1 eq) ∙ differ), k)

-- nor one of those behind an entry
pub not_later : (t : List ℕ) (second : Option (List ℕ)) (us : List (List ℕ)) → is_listed (with_second second us) t ≡ false → is_listed us t ≡ false
not_later t None us e = e
not_later t (Some name) us e = (not_listed t name us e).1

-- writing a member leaves the others
pub kept_one : (q name : List ℕ) (o : Option Data) (ms : Members) → (q ≡ name → ⊥) → get_member q (with_member name o ms) ≡ get_member q ms
kept_one q name None ms other = refl
kept_one q name (Some d) ms other = get_member-put_other q name d ms other

-- Writing the listed members leaves the others.
pub kept : (q : List ℕ) (rs : Rows) (xs : Slots) (ms : Members) → is_listed (names rs) q ≡ false → get_member q (with_rows rs xs ms) ≡ get_member q ms
kept q no_rows xs ms e = refl
kept q (row name second presence s rs) no_slots ms e = refl
kept q (row name second presence s rs) (slot x xs) ms e =
    let n = not_listed q name (with_second second (names rs)) e in
    kept q rs xs (with_member name (member_value presence (value s) x) ms) (not_later q second (names rs) n.1) ∙ kept_one q name (member_value presence (value s) x) ms n.0

-- a member that was not there is what is written
given : (name : List ℕ) (o : Option Data) (ms : Members) → get_member name ms ≡ None → get_member name (with_member name o ms) ≡ o
given name None ms e = e
given name (Some d) ms e = get_member-put name d ms

-- The first listed member is what is written for it.
pub first_written : (name : List ℕ) (second : Option (List ℕ)) (presence : Presence) (s : Shape) (rs : Rows) (x : Slot) (xs : Slots) (ms : Members)
    → is_listed (names rs) name ≡ false → get_member name ms ≡ None
    → get_member name (with_rows (row name second presence s rs) (slot x xs) ms) ≡ member_value presence (value s) x
first_written name second presence s rs x xs ms once none =
    kept name rs xs (with_member name (member_value presence (value s) x) ms) once ∙ given name (member_value presence (value s) x) ms none
