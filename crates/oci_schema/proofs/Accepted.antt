-- What is accepted decodes to something serializable.
use Rattle.std.proofs.Common.{◌≡◌, refl, sym, ap, ◌∙◌, subst, Bool, true, false, not, ◌||◌, Option, Some, None, is_some, true≢false, inl, inr, Result, Ok, Err}
use Rattle.std.specs.Prelude.{⊤, IfOk, IfErr}
use Rattle.serde_json.specs.Data.{Data, null, boolean, number, string, array, object, Items, no_items, item, Members, no_members, member}
use Rattle.serde_json.specs.Find.{as_array, as_object, as_null, get}
use Rattle.serde_json.specs.Read.{read}
use Rattle.serde_json.specs.Written.{has_float, members_have_float, compact_text}
use Rattle.serde_json.specs.View.{view}
use Rattle.serde_json.specs.declared.value.Value.{Value}
use Rattle.oci_base.specs.Refused.{IsSchema}
use Rattle.oci_base.specs.declared.error.OciSpecError.{OciSpecError}
use Rattle.oci_base.specs.CpuList.{IsCpuList}
use Rattle.oci_model.specs.Plain as plain
use Rattle.oci_model.specs.Plain.{Plain, Plains, no_plains, Entries, no_entries, entry, Slot, empty, filled, Slots, no_slots, slot, text_of, free_of}
use Rattle.oci_model.specs.Shape as shape
use Rattle.oci_model.specs.Shape.{Presence, required, defaulted, optional, nullable, unless_empty, Shape, text, truth, whole, named, open_name, digest_text, cpu_text, cap_set, list, key_set, detail, free_map, rows, Rows, no_rows, row}
use Rattle.oci_model.specs.Fits.{Each, EachEntry, IfFilled}
use Rattle.oci_model.specs.Means.{Means, MeansRows, MeansEither, MeansMember, EachMeans, EachEntryMeans, IsThere, IsThereOr, is_object, get_second, unless_null}
use Rattle.oci_model.specs.Refused.{IsRefused}
use Rattle.oci_model.specs.Value.{value, free_members}
use Rattle.oci_model.specs.WellFormed.{WellFormed, AreWellFormed, MemberIsWellFormed}
use Rattle.oci_model.specs.Writable.{Writable, AreWritable}
use Rattle.oci_schema.specs.Allows.{allows, each_allowed, each_member_allowed, items_allowed, members_allowed, member_allowed, either_allowed}
use Rattle.oci_schema.specs.Normalized.{IsSound, HasNoNormalForm, is_kept, accepts, rows_accept, normalized}
use Rattle.oci_schema.proofs.Decides.{first_of, later_of, meant, allowed}
use Rattle.oci_schema.proofs.NormalForms.{told, members_kept}

-- ---- which shapes members have

-- what is well formed may be an optional member's shape
may_be : (s : Shape) (W : Type 0) → W → MemberIsWellFormed optional s W
may_be detail W w = tt
may_be s W w = w

pub sound : (s : Shape) → WellFormed s → IsSound s
sound s w = may_be s (WellFormed s) w

only_list : (s : Shape) (W : Type 0) → MemberIsWellFormed unless_empty s W → W
only_list (list s) W w = w
only_list s W w = absurd w

-- so may the shape of any member be
pub of_member : (presence : Presence) (s : Shape) → MemberIsWellFormed presence s (WellFormed s) → IsSound s
of_member required s w = sound s w
of_member (defaulted q) s w = sound s w.0
of_member optional s w = w
of_member nullable s w = sound s w
of_member unless_empty s w = sound s (only_list s (WellFormed s) w)

-- ---- parts

-- what is accepted decodes to something serializable
abbrev Yes : (Data → Bool) → (Data → Plain → Type 0) → (Plain → Type 0) → Type 0
Yes f M W = (d : Data) → f d ≡ true → (p : Plain) × M d p × W p

-- a default value is serializable
abbrev pub IfDefault : (Plain → Type 0) → Presence → Type 0
IfDefault W (defaulted p) = W p
IfDefault W _ = ⊤

default_writable : (presence : Presence) (s : Shape) → MemberIsWellFormed presence s (WellFormed s) → IfDefault (Writable s) presence
default_writable required s w = tt
default_writable (defaulted q) s w = w.2
default_writable optional s w = tt
default_writable nullable s w = tt
default_writable unless_empty s w = tt

module _ (f : Data → Bool) (M : Data → Plain → Type 0) (W : Plain → Type 0) (sure : Yes f M W) where
  each_yes : (ds : Items) → each_allowed f ds ≡ true → (ps : Plains) × EachMeans M ds ps × Each W ps
  each_yes no_items e = (no_plains, tt, tt)
  each_yes (item d ds) e =
      let one = sure d (first_of _ _ e) in
      let more = each_yes ds (later_of (f d) _ e) in
      (plain.plain one.0 more.0, (one.1, more.1), (one.2, more.2))

  each_member_yes : (ms : Members) → each_member_allowed f ms ≡ true → (es : Entries) × EachEntryMeans M ms es × EachEntry W es
  each_member_yes no_members e = (no_entries, tt, tt)
  each_member_yes (member k d ms) e =
      let one = sure d (first_of _ _ e) in
      let more = each_member_yes ms (later_of (f d) _ e) in
      (entry k one.0 more.0, (refl, one.1, more.1), (one.2, more.2))

  given_yes : (d : Data) → f d ≡ true → (x : Slot) × IsThere M (Some d) x × IfFilled W x
  given_yes d e = let m = sure d e in (filled m.0, m.1, m.2)

  -- a member that may be null
  null_yes : (d : Data) → (is_some (as_null d) || f d) ≡ true → (x : Slot) × IsThereOr empty M (unless_null d) x × IfFilled W x
  null_yes null e = (empty, refl, tt)
  null_yes (boolean b) e = given_yes (boolean b) e
  null_yes (number b) e = given_yes (number b) e
  null_yes (string b) e = given_yes (string b) e
  null_yes (array b) e = given_yes (array b) e
  null_yes (object b) e = given_yes (object b) e

  member_yes : (presence : Presence) → IfDefault W presence → (found : Option Data) → member_allowed presence f found ≡ true → (x : Slot) × MeansMember presence M found x × IfFilled W x
  member_yes required w None e = absurd (true≢false (sym e))
  member_yes required w (Some d) e = given_yes d e
  member_yes (defaulted p) w None e = (filled p, refl, w)
  member_yes (defaulted p) w (Some d) e = given_yes d e
  member_yes optional w None e = (empty, refl, tt)
  member_yes optional w (Some d) e = null_yes d e
  member_yes nullable w None e = (empty, refl, tt)
  member_yes nullable w (Some d) e = null_yes d e
  member_yes unless_empty w None e = (empty, refl, tt)
  member_yes unless_empty w (Some d) e = null_yes d e

  either_yes : (presence : Presence) → IfDefault W presence → (found second : Option Data) → either_allowed presence f found second ≡ true
      → (x : Slot) × MeansEither presence M found second x × IfFilled W x
  either_yes presence w found None e = member_yes presence w found e
  either_yes presence w None (Some d) e = member_yes presence w (Some d) e
  either_yes presence w (Some c) (Some d) e = absurd (true≢false (sym e))

-- ---- shape by shape

abbrev Written : Shape → Data → Type 0
Written s d = (p : Plain) × Means s d p × Writable s p

-- of a shape that any plain tree is serializable by
simple : (s : Shape) (d : Data) → ((p : Plain) → Writable s p) → allows s d ≡ true → Written s d
simple s d always e = let m = meant s d e in (m.0, m.1, always m.0)

items_yes : (s : Shape) → Yes (accepts s) (Means s) (Writable s) → (o : Option Items) (d : Data) → as_array d ≡ o → items_allowed (accepts s) o ≡ true → Written (list s) d
items_yes s sure None d is e = absurd (true≢false (sym e))
items_yes s sure (Some ds) d is e = let ps = each_yes (accepts s) (Means s) (Writable s) sure ds e in (plain.list ps.0, (ds, ps.0, is, refl, ps.1), ps.2)

members_yes : (s : Shape) → Yes (accepts s) (Means s) (Writable s) → (o : Option Members) (d : Data) → as_object d ≡ o → members_allowed (accepts s) o ≡ true → Written (shape.map s) d
members_yes s sure None d is e = absurd (true≢false (sym e))
members_yes s sure (Some ms) d is e = let es = each_member_yes (accepts s) (Means s) (Writable s) sure ms e in (plain.map es.0, (ms, es.0, is, refl, es.1), es.2)

kept : (o : Option Data) → is_kept o ≡ true → (d : Data) × (o ≡ Some d) × (has_float d ≡ false)
kept None e = absurd (true≢false (sym e))
kept (Some d) e = (d, refl, here (has_float d) e)
  where
    here : (b : Bool) → not b ≡ true → b ≡ false
    here true h = absurd (true≢false (sym h))
    here false h = refl

detail_yes : (d : Data) → accepts detail d ≡ true → Written detail d
detail_yes d e =
    let m = meant detail d (first_of (allows detail d) _ e) in
    let again = kept (read (compact_text d)) (later_of (allows detail d) _ e) in
    (m.0, m.1, (again.0, ap (λ q. read (text_of q)) m.1.2 ∙ again.1, again.2))

cpu_yes : (d : Data) → allows cpu_text d ≡ true → Written cpu_text d
cpu_yes d e = let m = meant cpu_text d e in (m.0, m.1, subst (λ q. IsCpuList (text_of q)) (sym m.1.2) m.1.3)

free_yes : (d : Data) → allows free_map d ≡ true → Written free_map d
free_yes d e =
    let m = meant free_map d e in
    (m.0, m.1, subst (λ q. members_have_float (free_members (free_of q)) ≡ false) (sym m.1.2) (ap members_have_float (members_kept m.1.0) ∙ m.1.3))

mutual
  pub accepted : (s : Shape) → IsSound s → (d : Data) → accepts s d ≡ true → Written s d
  accepted text w d e = simple text d (λ p. tt) e
  accepted truth w d e = simple truth d (λ p. tt) e
  accepted (whole low high) w d e = simple (whole low high) d (λ p. tt) e
  accepted (named table) w d e = simple (named table) d (λ p. tt) e
  accepted (open_name table) w d e = simple (open_name table) d (λ p. tt) e
  accepted digest_text w d e = simple digest_text d (λ p. tt) e
  accepted cpu_text w d e = cpu_yes d e
  accepted (cap_set table) w d e = simple (cap_set table) d (λ p. tt) e
  accepted (list s) w d e = items_yes s (λ x h. accepted s (sound s w) x h) (as_array d) d refl e
  accepted (shape.map s) w d e = members_yes s (λ x h. accepted s (sound s w) x h) (as_object d) d refl e
  accepted key_set w d e = simple key_set d (λ p. tt) e
  accepted detail w d e = detail_yes d e
  accepted free_map w d e = free_yes d e
  accepted (rows rs) w d e =
      let xs = accepted_rows rs w.1 d (later_of (is_object d) _ e) in
      (plain.document xs.0, (xs.0, first_of _ _ e, refl, xs.1), xs.2)

  accepted_rows : (rs : Rows) → AreWellFormed rs → (d : Data) → rows_accept rs d ≡ true → (xs : Slots) × MeansRows rs d xs × AreWritable rs xs
  accepted_rows no_rows w d e = (no_slots, tt, tt)
  accepted_rows (row name second presence s rs) w d e =
      let x = either_yes (accepts s) (Means s) (Writable s) (λ y h. accepted s (of_member presence s w.0) y h) presence (default_writable presence s w.0)
      (get name d) (get_second second d) (first_of _ _ e) in
      let xs = accepted_rows rs w.1 d (later_of (either_allowed presence (accepts s) (get name d) (get_second second d)) _ e) in
      (slot x.0 xs.0, (x.1, xs.1), (x.2, xs.2))

-- ---- what the public function's contract says

-- of a normal form
answers : (s : Shape) (d c : Data) → WellFormed s → (accepts s d ≡ true) × (c ≡ normalized s d) → (p : Plain) × Means s d p × Writable s p × (c ≡ value s p)
answers s d c w h =
    let m = accepted s (sound s w) d h.0 in
    (m.0, m.1, m.2, h.1 ∙ (told s d m.0 m.1 m.2).1)

nothing_meant : (s : Shape) (d : Data) → allows s d ≡ false → IsRefused s d
unfolding IsRefused
nothing_meant s d e p m = absurd (true≢false (sym (allowed s d p m) ∙ e))

pub answers_all : {E : Type 0} (r : Result Value E) (s : Shape) (d : Data) → WellFormed s → IfOk r (λ v. (accepts s d ≡ true) × (view v ≡ normalized s d))
    → IfOk r (λ v. (p : Plain) × Means s d p × Writable s p × (view v ≡ value s p))
answers_all (Ok v) s d w h = answers s d (view v) w h
answers_all (Err e) s d w h = tt

-- and where there is none
refuses : (s : Shape) (d : Data) → accepts s d ≡ false → HasNoNormalForm s d
refuses s d e = here (allows s d) refl
  where
    here : (b : Bool) → allows s d ≡ b → HasNoNormalForm s d
    here true is = let m = meant s d is in inr (m.0, m.1, λ w. true≢false (sym (told s d m.0 m.1 w).0 ∙ e))
    here false is = inl (nothing_meant s d is)

pub refuses_all : {T : Type 0} (r : Result T OciSpecError) (s : Shape) (d : Data) → IfErr r (λ e. IsSchema e → accepts s d ≡ false) → IfErr r (λ e. IsSchema e → HasNoNormalForm s d)
refuses_all (Ok v) s d h = tt
refuses_all (Err e) s d h = λ is. refuses s d (h is)
