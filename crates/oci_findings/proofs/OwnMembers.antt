-- Which members the JSON of a content has: those that are required or have a default, and none but the listed ones.
use Rattle.std.proofs.Common.{◌≡◌, ℕ, List, [], ◌∷◌, Bool, true, false, ◌&&◌, ◌||◌, not, bytes_eq, Option, Some, None, is_some, refl, sym, ap, ◌∙◌, true≢false}
use Rattle.std.specs.List.{list_all, list_any}
use Rattle.std.proofs.lemmas.Slice.Eq.{bytes_eq-Decides}
use Rattle.serde_json.specs.Data.{Data, Members, no_members, put}
use Rattle.serde_json.specs.Find.{get_member}
use Rattle.serde_json.proofs.Views.{get_member-put, get_member-put_other}
use Rattle.oci_base.specs.Names.{is_listed}
use Rattle.oci_json.proofs.Written.{kept}
use Rattle.oci_model.specs.Fits.{Fits, FitsMember, FitsRows}
use Rattle.oci_model.specs.Plain.{Plain, Slot, empty, filled, Slots, no_slots, slot}
use Rattle.oci_model.specs.Shape.{Presence, required, defaulted, optional, nullable, unless_empty, Rows, no_rows, row, names}
use Rattle.oci_model.specs.Value.{value, with_member, member_value, with_rows}

abbrev is_sure : Presence → Bool
is_sure required = true
is_sure (defaulted p) = true
is_sure optional = false
is_sure nullable = false
is_sure unless_empty = false

-- a member of this name is always written
abbrev pub must_have : Rows → List ℕ → Bool
must_have no_rows q = false
must_have (row name second presence s rs) q = bytes_eq q name && is_sure presence || must_have rs q

-- it may be
abbrev pub may_have : Rows → List ℕ → Bool
may_have rs q = is_listed (names rs) q

-- ---- what is always written

there_put : (b : Bool) (q name : List ℕ) (d : Data) (ms : Members) → bytes_eq q name ≡ b → is_some (get_member q ms) ≡ true → is_some (get_member q (put name d ms)) ≡ true
there_put true q name d ms is there =
    let same : q ≡ name = (bytes_eq-Decides q name).0 is in
    ap (λ n. is_some (get_member n (put name d ms))) same ∙ ap is_some (get_member-put name d ms)
there_put false q name d ms is there = ap is_some (get_member-put_other q name d ms (λ same. true≢false (sym ((bytes_eq-Decides q name).1 same) ∙ is))) ∙ there

there_one : (q name : List ℕ) (o : Option Data) (ms : Members) → is_some (get_member q ms) ≡ true → is_some (get_member q (with_member name o ms)) ≡ true
there_one q name None ms there = there
there_one q name (Some d) ms there = there_put (bytes_eq q name) q name d ms refl there

there_rows : (q : List ℕ) (rs : Rows) (xs : Slots) (ms : Members) → is_some (get_member q ms) ≡ true → is_some (get_member q (with_rows rs xs ms)) ≡ true
there_rows q no_rows xs ms there = there
there_rows q (row name second presence s rs) no_slots ms there = there
there_rows q (row name second presence s rs) (slot x xs) ms there =
    there_rows q rs xs (with_member name (member_value presence (value s) x) ms) (there_one q name (member_value presence (value s) x) ms there)

sure_value : (presence : Presence) (P : Plain → Type 0) (f : Plain → Data) (x : Slot) → is_sure presence ≡ true → FitsMember presence P x → (d : Data) × (member_value presence f x ≡ Some d)
sure_value required P f empty sure fits = absurd fits
sure_value required P f (filled p) sure fits = (f p, refl)
sure_value (defaulted d) P f empty sure fits = absurd fits
sure_value (defaulted d) P f (filled p) sure fits = (f p, refl)
sure_value optional P f x sure fits = absurd (true≢false (sym sure))
sure_value nullable P f x sure fits = absurd (true≢false (sym sure))
sure_value unless_empty P f x sure fits = absurd (true≢false (sym sure))

there_first : (q name : List ℕ) (o : Option Data) (d : Data) (ms : Members) → q ≡ name → o ≡ Some d → is_some (get_member q (with_member name o ms)) ≡ true
there_first q name o d ms same is =
    ap (λ n. is_some (get_member n (with_member name o ms))) same ∙ ap (λ v. is_some (get_member name (with_member name v ms))) is ∙ ap is_some (get_member-put name d ms)

one_of_two : (a b later : Bool) (P : Type 0) → (a && b || later) ≡ true → (a ≡ true → b ≡ true → P) → (later ≡ true → P) → P
one_of_two true true later P e first rest = first refl refl
one_of_two true false later P e first rest = rest e
one_of_two false b later P e first rest = rest e

pub must : (q : List ℕ) (rs : Rows) (xs : Slots) (ms : Members) → must_have rs q ≡ true → FitsRows rs xs → is_some (get_member q (with_rows rs xs ms)) ≡ true
must q no_rows xs ms e fits = absurd (true≢false (sym e))
must q (row name second presence s rs) no_slots ms e fits = absurd fits
must q (row name second presence s rs) (slot x xs) ms e fits =
    let o : Option Data = member_value presence (value s) x in
    one_of_two (bytes_eq q name) (is_sure presence) (must_have rs q) (is_some (get_member q (with_rows rs xs (with_member name o ms))) ≡ true) e
    (λ same sure.
    let (d, is) = sure_value presence (Fits s) (value s) x sure fits.0 in
    there_rows q rs xs (with_member name o ms) (there_first q name o d ms ((bytes_eq-Decides q name).0 same) is))
    (λ later. must q rs xs (with_member name o ms) later fits.1)

-- ---- what may be

pub never : (q : List ℕ) (rs : Rows) (xs : Slots) → may_have rs q ≡ false → get_member q (with_rows rs xs no_members) ≡ None
never q rs xs e = kept q rs xs no_members e

may_if : (b : Bool) (q : List ℕ) (rs : Rows) (xs : Slots) → may_have rs q ≡ b → is_some (get_member q (with_rows rs xs no_members)) ≡ true → may_have rs q ≡ true
may_if true q rs xs is there = is
may_if false q rs xs is there = absurd (true≢false (sym there ∙ ap is_some (never q rs xs is)))

pub may : (q : List ℕ) (rs : Rows) (xs : Slots) → is_some (get_member q (with_rows rs xs no_members)) ≡ true → may_have rs q ≡ true
may q rs xs there = may_if (may_have rs q) q rs xs refl there

-- ---- of all names, and of some

pub all_up : (f g : List ℕ → Bool) → ((q : List ℕ) → f q ≡ true → g q ≡ true) → (qs : List (List ℕ)) → list_all f qs ≡ true → list_all g qs ≡ true
all_up f g up [] e = refl
all_up f g up (q ∷ qs) e = both (f q) (g q) (list_all f qs) (list_all g qs) e (up q) (all_up f g up qs)
  where
    both : (a b c d : Bool) → (a && c) ≡ true → (a ≡ true → b ≡ true) → (c ≡ true → d ≡ true) → (b && d) ≡ true
    both true b c d e one rest = rw (one refl) (rest e)
    both false b c d e one rest = absurd (true≢false (sym e))

pub any_up : (f g : List ℕ → Bool) → ((q : List ℕ) → f q ≡ true → g q ≡ true) → (qs : List (List ℕ)) → list_any f qs ≡ true → list_any g qs ≡ true
any_up f g up [] e = e
any_up f g up (q ∷ qs) e = either (f q) (g q) (list_any f qs) (list_any g qs) e (up q) (any_up f g up qs)
  where
    either : (a b c d : Bool) → (a || c) ≡ true → (a ≡ true → b ≡ true) → (c ≡ true → d ≡ true) → (b || d) ≡ true
    either true b c d e one rest = rw (one refl) refl
    either false true c d e one rest = refl
    either false false c d e one rest = rest e

-- so of more names, and of fewer that are to be absent
pub and_not_up : (a b c d : Bool) → (a && not b) ≡ true → (a ≡ true → c ≡ true) → (d ≡ true → b ≡ true) → (c && not d) ≡ true
and_not_up true true c d e up down = absurd (true≢false (sym e))
and_not_up true false c true e up down = absurd (true≢false (sym (down refl)))
and_not_up true false c false e up down = rw (up refl) refl
and_not_up false b c d e up down = absurd (true≢false (sym e))
