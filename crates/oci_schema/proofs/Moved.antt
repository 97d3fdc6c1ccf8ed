-- Members that are moved from one object to another, in the order of the schema.
use Rattle.std.proofs.Common.{◌≡◌, ℕ, zero, suc, ◌+◌, ◌<◌, ◌≤◌, List, [], ◌∷◌, length, drop, slice_index_or, Bool, true, false, ◌&&◌, ◌||◌, Option, Some, None, bytes_eq, refl, sym, ap, ◌∙◌, subst, true≢false, arith}
use Rattle.std.specs.Prelude.{not}
use Rattle.std.proofs.lemmas.Slice.Eq.{bytes_eq-Decides}
use Rattle.serde_json.specs.Data.{Data, object, Members, no_members}
use Rattle.serde_json.specs.Find.{get, get_member}
use Rattle.oci_base.specs.Names.{is_listed, no_text_twice}
use Rattle.oci_model.specs.Means.{get_second}
use Rattle.oci_model.specs.Shape.{Presence, Shape, Rows, row, names, with_second}
use Rattle.oci_model.specs.Value.{value, with_member}
use Rattle.oci_model.specs.WellFormed.{AreWellFormed}
use Rattle.oci_schema.specs.Allows.{either_allowed}
use Rattle.oci_schema.specs.Normalized.{accepts, rows_accept, known_accepted, chosen, normalized_member, normalized, normalized_rows, known_normalized, is_one_of}
use Rattle.oci_schema.specs.Shapes.{presence_of, alias_of, schema_shape, members_in}
use Rattle.oci_schema.specs.declared.record.Member.{Member}
use Rattle.oci_schema.proofs.Decides.{first_of, later_of, refuted}
use Rattle.oci_schema.proofs.Texts.{or_right}
use Rattle.oci_schema.proofs.Listings.{listed_first, later_listed, rest_once}
use Rattle.oci_schema.proofs.Listed.{drop_at}

-- ---- names

or_none : (a b : Bool) → a ≡ false → b ≡ false → (a || b) ≡ false
or_none false b e h = h
or_none true b e h = cc

-- a name that is among others is none that is not
apart : (q name : List ℕ) (ts : List (List ℕ)) → is_listed ts name ≡ false → is_listed ts q ≡ true → bytes_eq q name ≡ false
apart q name ts other is = here (bytes_eq q name) refl
  where
    here : (b : Bool) → bytes_eq q name ≡ b → b ≡ false
    here true e = absurd (true≢false (sym is ∙ ap (is_listed ts) ((bytes_eq-Decides q name).0 e) ∙ other))
    here false e = refl

one_apart : (q name : List ℕ) (second : Option (List ℕ)) (ts : List (List ℕ)) → no_text_twice (name ∷ with_second second ts) ≡ true → is_listed ts q ≡ true → is_one_of q name second ≡ false
one_apart q name None ts once is = apart q name ts (refuted (is_listed ts name) (first_of (not (is_listed ts name)) (no_text_twice ts) once)) is
one_apart q name (Some t) ts once is =
    let a = first_of (not (is_listed (t ∷ ts) name)) (no_text_twice (t ∷ ts)) once in
    let b = later_of (not (is_listed (t ∷ ts) name)) (no_text_twice (t ∷ ts)) once in
    or_none (bytes_eq q name) (bytes_eq q t)
    (apart q name (t ∷ ts) (refuted (is_listed (t ∷ ts) name) a) (or_right (bytes_eq q t) (is_listed ts q) is))
    (apart q t ts (refuted (is_listed ts t) (first_of (not (is_listed ts t)) (no_text_twice ts) b)) is)

-- ---- members that are moved, and members that are left

-- of a value's members, some are moved; the others are as they were
pub record Moved (rs : Rows) (d : Data) (left : Rows) (now made : Members) : Type 0 where
  pub accepted : rows_accept rs d ≡ rows_accept left d
  pub moved : normalized_rows rs d no_members ≡ normalized_rows left d made
  pub same : (q : List ℕ) → is_listed (names left) q ≡ true → get_member q now ≡ get q d
  pub distinct : no_text_twice (names left) ≡ true
  pub well : AreWellFormed left

module _ (rs : Rows) (d : Data) (name : List ℕ) (second : Option (List ℕ)) (presence : Presence) (s : Shape) (left : Rows) (now made : Members)
    (h : Moved rs d (row name second presence s left) now made) where
  found_same : get_member name now ≡ get name d
  found_same = h.same name (listed_first name (with_second second (names left)))

  second_same_at : (t : Option (List ℕ)) → t ≡ second → get_second t (object now) ≡ get_second t d
  second_same_at None e = refl
  second_same_at (Some t) e =
      h.same t (subst (λ u. is_listed (name ∷ with_second u (names left)) t ≡ true) e (or_right (bytes_eq t name) _ (listed_first t (names left))))

  second_same : get_second second (object now) ≡ get_second second d
  second_same = second_same_at second refl

  either_same : (b : Bool) → either_allowed presence (accepts s) (get_member name now) (get_second second (object now)) ≡ b
      → either_allowed presence (accepts s) (get name d) (get_second second d) ≡ b
  either_same b e =
      ap (λ x. either_allowed presence (accepts s) x (get_second second d)) (sym found_same)
      ∙ ap (either_allowed presence (accepts s) (get_member name now)) (sym second_same) ∙ e

  chosen_same : chosen (get name d) (get_second second d) ≡ chosen (get_member name now) (get_second second (object now))
  chosen_same = ap (λ x. chosen x (get_second second d)) (sym found_same) ∙ ap (chosen (get_member name now)) (sym second_same)

  row_more : (later more : Members) → either_allowed presence (accepts s) (get_member name now) (get_second second (object now)) ≡ true
      → more ≡ with_member name (normalized_member presence (value s) (normalized s) (chosen (get_member name now) (get_second second (object now)))) made
      → ((q : List ℕ) → is_one_of q name second ≡ false → get_member q later ≡ get_member q now) → Moved rs d left later more
  row_more later more e m rest = record {
    accepted = h.accepted ∙ ap (λ b. b && rows_accept left d) (either_same true e);
    moved =
        h.moved ∙ ap (λ x. normalized_rows left d (with_member name (normalized_member presence (value s) (normalized s) x) made)) chosen_same
        ∙ ap (normalized_rows left d) (sym m);
    same = λ q is. rest q (one_apart q name second (names left) h.distinct is) ∙ h.same q (or_right (bytes_eq q name) _ (later_listed second (names left) q is));
    distinct = rest_once name second (names left) h.distinct;
    well = h.well.1;
  }

module _ (f : ℕ → Shape) (rs : Rows) (d : Data) (all : List Member) (i : ℕ) (w : Member) (now made : Members) (below : i < length all)
    (h : Moved rs d (members_in f (drop i all)) now made) where
  abbrev x : Member
  x = slice_index_or all i w

  here : Moved rs d (members_in f (x ∷ drop (i + 1) all)) now made
  here = subst (λ z. Moved rs d (members_in f z) now made) (drop_at all i w below) h

  pub moved_more : (later more : Members) → known_accepted f (slice_index_or all i w) (object now) ≡ true
      → more ≡ with_member (slice_index_or all i w).name.now (known_normalized f (slice_index_or all i w) (object now)) made
      → ((q : List ℕ) → is_one_of q (slice_index_or all i w).name.now (alias_of (slice_index_or all i w).alias) ≡ false → get_member q later ≡ get_member q now)
      → Moved rs d (members_in f (drop (i + 1) all)) later more
  moved_more later more e m rest =
      row_more rs d x.name.now (alias_of x.alias) (presence_of x.presence) (schema_shape f x.schema) (members_in f (drop (i + 1) all)) now made here later more e m rest

  -- a member that is rejected
  pub moved_refused : known_accepted f (slice_index_or all i w) (object now) ≡ false → rows_accept rs d ≡ false
  moved_refused e =
      here.accepted ∙ ap (λ b. b && rows_accept (members_in f (drop (i + 1) all)) d)
      (either_same rs d x.name.now (alias_of x.alias) (presence_of x.presence) (schema_shape f x.schema) (members_in f (drop (i + 1) all)) now made here false e)

pub past : {A : Type 0} (xs : List A) (i : ℕ) → length xs ≤ i → drop i xs ≡ []
past [] zero l = refl
past [] (suc i) l = refl
past (x ∷ xs) zero l = absurd (omega arith)
past (x ∷ xs) (suc i) l = past xs i (omega arith)

pub moved_all : (f : ℕ → Shape) (rs : Rows) (d : Data) (all : List Member) (i : ℕ) (now made : Members) → length all ≤ i → Moved rs d (members_in f (drop i all)) now made
    → (rows_accept rs d ≡ true) × (made ≡ normalized_rows rs d no_members)
moved_all f rs d all i now made l h =
    let none = past all i l in
    (h.accepted ∙ ap (λ z. rows_accept (members_in f z) d) none, sym (h.moved ∙ ap (λ z. normalized_rows (members_in f z) d made) none))
