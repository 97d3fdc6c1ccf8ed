-- An object is its own normal form if each of its entries is a member of the record with a value that is its own normal form, and each member
-- that is always written is there.
use Rattle.std.proofs.Common.{◌≡◌, refl, sym, ap, ◌∙◌, subst, ℕ, List, ◌∷◌, Bool, true, false, true≢false, Option, Some, None, is_some, bytes_eq, Ordering, Less, Equal, Greater, nat_cmp, is_eq, inl, inr}
use Rattle.std.specs.Prelude.{◌⊎◌, not, unwrap_or}
use Rattle.std.specs.Cmp.Lexicographic.{slice_cmp}
use Rattle.std.specs.Ordering.{match_ordering, ordering_reverse}
use Rattle.std.proofs.lemmas.Cmp.{nat_list_cmp_total, tied_itself}
use Rattle.std.proofs.lemmas.Map.Text.{is_eq-slice_cmp}
use Rattle.std.proofs.lemmas.Slice.Eq.{bytes_eq-Decides}
use Rattle.serde_json.specs.Data.{Data, object, Members, no_members, member, put}
use Rattle.serde_json.specs.Find.{get_member}
use Rattle.serde_json.proofs.Views.{get_member-put, get_member-put_other}
use Rattle.oci_base.specs.Names.{is_listed, no_text_twice}
use Rattle.oci_model.specs.Means.{get_second}
use Rattle.oci_model.specs.Shape.{Presence, required, defaulted, optional, nullable, unless_empty, Shape, Rows, no_rows, row, names, with_second}
use Rattle.oci_model.specs.Value.{value, with_member}
use Rattle.oci_json.specs.Readable.{IsBefore, IsInOrder}
use Rattle.oci_json.proofs.Trees.{before_rest, put_in_order}
use Rattle.oci_schema.specs.Allows.{member_allowed, either_allowed}
use Rattle.oci_schema.specs.Normalized.{accepts, rows_accept, chosen, normalized, normalized_member, normalized_rows}
use Rattle.oci_schema.specs.Normal.{AreNormalMembers, is_always_written, IsNormalMember, IsNormalEntry, AreNormalEntries, HasAll}
use Rattle.oci_schema.proofs.Decides.{both, first_of, later_of, refuted}
use Rattle.oci_schema.proofs.Texts.{or_right}
use Rattle.oci_schema.proofs.Listings.{listed_first, later_listed, rest_once}

-- ---- objects with their names in order are equal where they are equal at each name

same_name : (q k : List ℕ) → slice_cmp nat_cmp q k ≡ Equal → q ≡ k
same_name q k is = (bytes_eq-Decides q k).0 (sym (is_eq-slice_cmp q k) ∙ ap is_eq is)

first_found : (k : List ℕ) (d : Data) (ms : Members) → get_member k (member k d ms) ≡ Some d
first_found k d ms = rw (tied_itself nat_list_cmp_total k) refl

none_before : (k : List ℕ) (ms : Members) → IsBefore k ms → get_member k ms ≡ None
none_before k no_members h = refl
none_before k (member l d ms) h = rw h.0 (none_before k ms h.1)

same_rest : (k : List ℕ) (d e : Data) (ms ns : Members) → IsBefore k ms → IsBefore k ns
    → ((q : List ℕ) → get_member q (member k d ms) ≡ get_member q (member k e ns)) → (q : List ℕ) → get_member q ms ≡ get_member q ns
same_rest k d e ms ns a b h q = here (slice_cmp nat_cmp q k) refl (h q)
  where
    here : (o : Ordering) → slice_cmp nat_cmp q k ≡ o
        → match_ordering o (get_member q ms) (Some d) (get_member q ms) ≡ match_ordering o (get_member q ns) (Some e) (get_member q ns) → get_member q ms ≡ get_member q ns
    here Less is same = same
    here Equal is same = let named = same_name q k is in rw named (none_before k ms a ∙ sym (none_before k ns b))
    here Greater is same = same

same_members : (ms ns : Members) → IsInOrder ms → IsInOrder ns → ((q : List ℕ) → get_member q ms ≡ get_member q ns) → ms ≡ ns
same_members no_members no_members a b h = refl
same_members no_members (member l e ns) a b h = let lost : None ≡ Some e = h l ∙ first_found l e ns in cc
same_members (member k d ms) no_members a b h = let lost : None ≡ Some d = sym (h k) ∙ first_found k d ms in cc
same_members (member k d ms) (member l e ns) a b h = here (slice_cmp nat_cmp k l) refl (same_members ms ns a.1 b.1)
  where
    here : (o : Ordering) → slice_cmp nat_cmp k l ≡ o → (((q : List ℕ) → get_member q ms ≡ get_member q ns) → ms ≡ ns) → member k d ms ≡ member l e ns
    here Less is rest =
        let lost : None ≡ Some d = sym (none_before k (member l e ns) (is, before_rest k l ns is b.0)) ∙ sym (h k) ∙ first_found k d ms in cc
    here Greater is rest =
        let back : slice_cmp nat_cmp l k ≡ Less = nat_list_cmp_total.antisymm l k ∙ ap ordering_reverse is in
        let lost : None ≡ Some e = sym (none_before l (member k d ms) (back, before_rest l k ms back a.0)) ∙ h l ∙ first_found l e ns in cc
    here Equal is rest =
        let named : l ≡ k = sym (same_name k l is) in
        let found : (q : List ℕ) → get_member q (member k d ms) ≡ get_member q (member k e ns) = subst (λ x. (q : List ℕ) → get_member q (member k d ms) ≡ get_member q (member x e ns)) named h in
        let held : Some d ≡ Some e = sym (first_found k d ms) ∙ found k ∙ first_found k e ns in
        let more : ms ≡ ns = rest (same_rest k d e ms ns a.0 (subst (λ x. IsBefore x ns) named b.0) found) in
        let one : d ≡ e = ap (λ o. unwrap_or o d) held in
        cc

-- ---- members that are picked in the order of the schema

module _ (ms : Members) where
  abbrev picked : Rows → Members → Members
  picked no_rows made = made
  picked (row name second presence s rs) made = picked rs (with_member name (get_member name ms) made)

  -- the built object has a name as the members do
  abbrev Agrees : Members → List ℕ → Type 0
  Agrees made q = get_member q made ≡ get_member q ms

  -- it has each name as they do, or not at all
  abbrev IsPart : Members → Type 0
  IsPart made = (q : List ℕ) → (get_member q made ≡ None) ⊎ Agrees made q

  other_agrees : (name q : List ℕ) (o : Option Data) (made : Members) → get_member name ms ≡ o → Agrees made q → Agrees (with_member name o made) q
  other_agrees name q None made is h = h
  other_agrees name q (Some d) made is h = here (bytes_eq q name) refl
    where
      here : (b : Bool) → bytes_eq q name ≡ b → Agrees (put name d made) q
      here true e = let same = (bytes_eq-Decides q name).0 e in rw same (get_member-put name d made ∙ sym is)
      here false e = get_member-put_other q name d made (λ same. true≢false (sym ((bytes_eq-Decides q name).1 same) ∙ e)) ∙ h

  itself_agrees : (name : List ℕ) (o : Option Data) (made : Members) → get_member name ms ≡ o → (get_member name made ≡ None) ⊎ Agrees made name → Agrees (with_member name o made) name
  itself_agrees name None made is (inl h) = h ∙ sym is
  itself_agrees name None made is (inr h) = h
  itself_agrees name (Some d) made is h = get_member-put name d made ∙ sym is

  part_more : (name : List ℕ) (o : Option Data) (made : Members) → get_member name ms ≡ o → IsPart made → IsPart (with_member name o made)
  part_more name None made is h = h
  part_more name (Some d) made is h = λ q. here q (bytes_eq q name) refl (h q)
    where
      here : (q : List ℕ) (b : Bool) → bytes_eq q name ≡ b → (get_member q made ≡ None) ⊎ Agrees made q → (get_member q (put name d made) ≡ None) ⊎ Agrees (put name d made) q
      here q true e k = let same = (bytes_eq-Decides q name).0 e in inr (rw same (get_member-put name d made ∙ sym is))
      here q false e (inl k) = inl (get_member-put_other q name d made (λ same. true≢false (sym ((bytes_eq-Decides q name).1 same) ∙ e)) ∙ k)
      here q false e (inr k) = inr (get_member-put_other q name d made (λ same. true≢false (sym ((bytes_eq-Decides q name).1 same) ∙ e)) ∙ k)

  picked_part : (rs : Rows) (made : Members) → IsPart made → IsPart (picked rs made)
  picked_part no_rows made h = h
  picked_part (row name second presence s rs) made h = picked_part rs _ (part_more name (get_member name ms) made refl h)

  still_agrees : (rs : Rows) (made : Members) (q : List ℕ) → Agrees made q → Agrees (picked rs made) q
  still_agrees no_rows made q h = h
  still_agrees (row name second presence s rs) made q h = still_agrees rs _ q (other_agrees name q (get_member name ms) made refl h)

  picked_agrees : (rs : Rows) (q : List ℕ) (d : Data) → IsNormalEntry rs q d → (made : Members) → IsPart made → Agrees (picked rs made) q
  picked_agrees no_rows q d h made part = absurd h
  picked_agrees (row name second presence s rs) q d (inl h) made part =
      still_agrees rs _ q (subst (Agrees (with_member name (get_member name ms) made)) (sym h.0) (itself_agrees name (get_member name ms) made refl (part name)))
  picked_agrees (row name second presence s rs) q d (inr h) made part = picked_agrees rs q d h _ (part_more name (get_member name ms) made refl part)

  one_in_order : (name : List ℕ) (o : Option Data) (made : Members) → IsInOrder made → IsInOrder (with_member name o made)
  one_in_order name None made h = h
  one_in_order name (Some d) made h = put_in_order name d made h

  picked_in_order : (rs : Rows) (made : Members) → IsInOrder made → IsInOrder (picked rs made)
  picked_in_order no_rows made h = h
  picked_in_order (row name second presence s rs) made h = picked_in_order rs _ (one_in_order name (get_member name ms) made h)

  -- ---- members by which nothing changes

  -- what is found under a member's name is one of its values
  abbrev AreTold : Rows → Type 0
  AreTold rs = (q : List ℕ) (d : Data) → is_listed (names rs) q ≡ true → get_member q ms ≡ Some d → IsNormalEntry rs q d

  row_listed : (rs : Rows) (q : List ℕ) (d : Data) → IsNormalEntry rs q d → is_listed (names rs) q ≡ true
  row_listed no_rows q d h = absurd h
  row_listed (row name second presence s rs) q d (inl h) =
      subst (λ x. is_listed (name ∷ with_second second (names rs)) x ≡ true) (sym h.0) (listed_first name (with_second second (names rs)))
  row_listed (row name second presence s rs) q d (inr h) = or_right (bytes_eq q name) _ (later_listed second (names rs) q (row_listed rs q d h))

  module _ (name : List ℕ) (second : Option (List ℕ)) (presence : Presence) (s : Shape) (rs : Rows)
      (once : no_text_twice (names (row name second presence s rs)) ≡ true) where
    unlisted_later : is_listed (with_second second (names rs)) name ≡ false
    unlisted_later = refuted _ (first_of (not (is_listed (with_second second (names rs)) name)) _ once)

    later_told : AreTold (row name second presence s rs) → AreTold rs
    later_told told q d is found = here (told q d (or_right (bytes_eq q name) _ (later_listed second (names rs) q is)) found)
      where
        here : IsNormalEntry (row name second presence s rs) q d → IsNormalEntry rs q d
        here (inl h) = absurd (true≢false (sym (later_listed second (names rs) q is) ∙ ap (is_listed (with_second second (names rs))) h.0 ∙ unlisted_later))
        here (inr h) = h

    first_told : AreTold (row name second presence s rs) → (d : Data) → get_member name ms ≡ Some d → IsNormalMember presence s d
    first_told told d found = here (told name d (listed_first name (with_second second (names rs))) found)
      where
        here : IsNormalEntry (row name second presence s rs) name d → IsNormalMember presence s d
        here (inl h) = h.1
        here (inr h) = absurd (true≢false (sym (later_listed second (names rs) name (row_listed rs name d h)) ∙ unlisted_later))

  no_second : (name : List ℕ) (second : Option (List ℕ)) (presence : Presence) (s : Shape) (rs : Rows)
      → no_text_twice (names (row name second presence s rs)) ≡ true → AreTold (row name second presence s rs) → get_second second (object ms) ≡ None
  no_second name None presence s rs once told = refl
  no_second name (Some t) presence s rs once told = here (get_member t ms) refl
    where
      apart : is_listed (names rs) t ≡ false
      apart = refuted _ (first_of (not (is_listed (names rs) t)) _ (later_of (not (is_listed (t ∷ names rs) name)) _ once))

      of_row : (d : Data) → IsNormalEntry (row name (Some t) presence s rs) t d → ⊥
      of_row d (inl h) =
          true≢false (sym (listed_first t (names rs)) ∙ ap (is_listed (t ∷ names rs)) h.0 ∙ refuted _ (first_of (not (is_listed (t ∷ names rs) name)) _ once))
      of_row d (inr h) = true≢false (sym (row_listed rs t d h) ∙ apart)

      here : (o : Option Data) → get_member t ms ≡ o → get_member t ms ≡ None
      here None e = e
      here (Some d) e = absurd (of_row d (told t d (or_right (bytes_eq t name) _ (listed_first t (names rs))) e))

  member_told : (presence : Presence) (s : Shape) (found : Option Data) → (is_always_written presence ≡ true → is_some found ≡ true) → ((d : Data) → found ≡ Some d → IsNormalMember presence s d)
      → (member_allowed presence (accepts s) found ≡ true) × (normalized_member presence (value s) (normalized s) found ≡ found)
  member_told presence s (Some d) all told = told d refl
  member_told required s None all told = absurd (true≢false (sym (all refl)))
  member_told (defaulted p) s None all told = absurd (true≢false (sym (all refl)))
  member_told optional s None all told = (refl, refl)
  member_told nullable s None all told = absurd (true≢false (sym (all refl)))
  member_told unless_empty s None all told = (refl, refl)

  either_told : (presence : Presence) (s : Shape) (found second : Option Data) → second ≡ None
      → (member_allowed presence (accepts s) found ≡ true) × (normalized_member presence (value s) (normalized s) found ≡ found)
      → (either_allowed presence (accepts s) found second ≡ true) × (normalized_member presence (value s) (normalized s) (chosen found second) ≡ found)
  either_told presence s found None e h = h
  either_told presence s found (Some d) e h = cc

  rows_told : (rs : Rows) → no_text_twice (names rs) ≡ true → AreTold rs → HasAll rs ms
      → (rows_accept rs (object ms) ≡ true) × ((made : Members) → normalized_rows rs (object ms) made ≡ picked rs made)
  rows_told no_rows once told all = (refl, λ made. refl)
  rows_told (row name second presence s rs) once told all =
      let one = either_told presence s (get_member name ms) (get_second second (object ms)) (no_second name second presence s rs once told)
      (member_told presence s (get_member name ms) all.0 (first_told name second presence s rs once told)) in
      let more = rows_told rs (rest_once name second (names rs) once) (later_told name second presence s rs once told) all.1 in
      (both _ _ one.0 more.0, λ made. ap (λ o. normalized_rows rs (object ms) (with_member name o made)) one.1 ∙ more.1 (with_member name (get_member name ms) made))

-- what is found under a name is a value of its member
found_of_row : (rs : Rows) (ms : Members) (q : List ℕ) (d : Data) → AreNormalEntries rs ms → get_member q ms ≡ Some d → IsNormalEntry rs q d
found_of_row rs no_members q d h found = cc
found_of_row rs (member k e ms) q d h found = here (slice_cmp nat_cmp q k) refl found (found_of_row rs ms q d h.1)
  where
    here : (o : Ordering) → slice_cmp nat_cmp q k ≡ o → match_ordering o (get_member q ms) (Some e) (get_member q ms) ≡ Some d → (get_member q ms ≡ Some d → IsNormalEntry rs q d) → IsNormalEntry rs q d
    here Less is there later = later there
    here Equal is there later =
        let same : e ≡ d = ap (λ o. unwrap_or o e) there in
        subst (IsNormalEntry rs q) same (subst (λ x. IsNormalEntry rs x e) (sym (same_name q k is)) h.0)
    here Greater is there later = later there

pub members_normal : (rs : Rows) (ms : Members) → no_text_twice (names rs) ≡ true → IsInOrder ms → AreNormalEntries rs ms → HasAll rs ms → AreNormalMembers rs ms
members_normal rs ms once order listed all =
    let told = rows_told ms rs once (λ q d is found. found_of_row rs ms q d listed found) all in
    let part = picked_part ms rs no_members (λ q. inl refl) in
    let agree : (q : List ℕ) → get_member q (picked ms rs no_members) ≡ get_member q ms = (λ q. agrees_at rs ms q listed (get_member q ms) refl (part q)) in
    (told.0, told.1 no_members ∙ same_members (picked ms rs no_members) ms (picked_in_order ms rs no_members tt) order agree)
  where
    agrees_at : (rs : Rows) (ms : Members) (q : List ℕ) → AreNormalEntries rs ms → (o : Option Data) → get_member q ms ≡ o
        → (get_member q (picked ms rs no_members) ≡ None) ⊎ Agrees ms (picked ms rs no_members) q → Agrees ms (picked ms rs no_members) q
    agrees_at rs ms q listed o is (inr h) = h
    agrees_at rs ms q listed None is (inl h) = h ∙ sym is
    agrees_at rs ms q listed (Some d) is (inl h) = picked_agrees ms rs q d (found_of_row rs ms q d listed is) no_members (λ q. inl refl)
