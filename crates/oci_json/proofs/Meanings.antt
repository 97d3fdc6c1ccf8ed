-- What holds of all that the parts of a tree mean holds of what the tree means.
use Rattle.std.proofs.Common.{◌≡◌, ℕ, List, Option, Some, None, Ordering, Less, Equal, Greater, nat_cmp, sym, subst}
use Rattle.std.specs.Prelude.{⊤, option_and_then}
use Rattle.std.specs.Ordering.{match_ordering}
use Rattle.std.specs.Cmp.Lexicographic.{slice_cmp}
use Rattle.serde_json.specs.Data.{Data, null, boolean, number, string, array, object, Items, no_items, item, Members, no_members, member}
use Rattle.serde_json.specs.Find.{as_object, get, get_member}
use Rattle.oci_model.specs.Plain as plain
use Rattle.oci_model.specs.Plain.{Plain, Plains, no_plains, Entries, no_entries, entry, Slot, empty, filled}
use Rattle.oci_model.specs.Shape.{Presence, required, defaulted, optional, nullable, unless_empty, Shape, detail, list}
use Rattle.oci_model.specs.Fits.{Each, EachEntry, IfFilled, IsFilled, FitsMember}
use Rattle.oci_model.specs.Means.{unless_null, EachMeans, EachEntryMeans, IsThere, IsThereOr, MeansMember, get_second, MeansEither}
use Rattle.oci_model.specs.WellFormed.{WellFormed, MemberIsWellFormed}

-- ---- shapes of members

-- a `detail`, or well formed
unfoldable pub MayBe : Shape → Type 0
MayBe s = MemberIsWellFormed optional s (WellFormed s)

-- what is well formed may be an optional member
pub may_be : (s : Shape) (W : Type 0) → W → MemberIsWellFormed optional s W
may_be detail W w = tt
may_be s W w = w

-- a well-formed shape may be a member's
pub allowed : (s : Shape) → WellFormed s → MayBe s
unfolding MayBe
allowed s w = may_be s (WellFormed s) w

-- only a list is omitted where it is empty
only_list : (s : Shape) (W : Type 0) → MemberIsWellFormed unless_empty s W → W
only_list (list s) W w = w
only_list s W w = absurd w

-- so may the shape of any member be
pub of_member : (presence : Presence) (s : Shape) → MemberIsWellFormed presence s (WellFormed s) → MayBe s
unfolding MayBe
of_member required s w = may_be s (WellFormed s) w
of_member (defaulted q) s w = may_be s (WellFormed s) w.0
of_member optional s w = w
of_member nullable s w = may_be s (WellFormed s) w
of_member unless_empty s w = may_be s (WellFormed s) (only_list s (WellFormed s) w)

-- ---- what stands in a tree

-- of what is there, if anything is
abbrev pub OfSome : {A : Type 0} → (A → Type 0) → Option A → Type 0
OfSome P None = ⊤
OfSome P (Some a) = P a

-- of each item
abbrev pub EachOf : (Data → Type 0) → Items → Type 0
EachOf R no_items = ⊤
EachOf R (item d ds) = R d × EachOf R ds

-- of each member
abbrev pub EachMemberOf : (Data → Type 0) → Members → Type 0
EachMemberOf R no_members = ⊤
EachMemberOf R (member k d ms) = R d × EachMemberOf R ms

module _ (R : Data → Type 0) where
  -- of what stands under a name
  found_of : (k : List ℕ) (ms : Members) → EachMemberOf R ms → OfSome R (get_member k ms)
  found_of k no_members h = tt
  found_of k (member c e ms) h = here (slice_cmp nat_cmp k c) (found_of k ms h.1)
    where
      here : (o : Ordering) → OfSome R (get_member k ms) → OfSome R (match_ordering o (get_member k ms) (Some e) (get_member k ms))
      here Less rest = rest
      here Equal rest = h.0
      here Greater rest = rest

  -- of what stands under a name in an object
  pub got_of : (k : List ℕ) (d : Data) → ((ms : Members) → as_object d ≡ Some ms → EachMemberOf R ms) → OfSome R (get k d)
  got_of k null h = tt
  got_of k (boolean b) h = tt
  got_of k (number n) h = tt
  got_of k (string s) h = tt
  got_of k (array ds) h = tt
  got_of k (object ms) h = found_of k ms (h ms (cc))

  -- of what stands under a second name
  pub second_of : (second : Option (List ℕ)) (d : Data) → ((ms : Members) → as_object d ≡ Some ms → EachMemberOf R ms) → OfSome R (get_second second d)
  second_of None d h = tt
  second_of (Some k) d h = got_of k d h

  -- of what is there and not null
  not_null_of : (o : Option Data) → OfSome R o → OfSome R (option_and_then unless_null o)
  not_null_of None h = tt
  not_null_of (Some null) h = tt
  not_null_of (Some (boolean b)) h = h
  not_null_of (Some (number n)) h = h
  not_null_of (Some (string s)) h = h
  not_null_of (Some (array ds)) h = h
  not_null_of (Some (object ms)) h = h

-- any tree, where nothing is asked
abbrev pub IsAny : Data → Type 0
IsAny d = ⊤

-- any items
pub any_items : (ds : Items) → EachOf IsAny ds
any_items no_items = tt
any_items (item d ds) = (tt, any_items ds)

-- any members
pub any_members : (ms : Members) → EachMemberOf IsAny ms
any_members no_members = tt
any_members (member k d ms) = (tt, any_members ms)

-- ---- what it means

-- what is asked of a default
abbrev pub IfDefault : (Plain → Type 0) → Presence → Type 0
IfDefault P (defaulted q) = P q
IfDefault P _ = ⊤

-- where R holds of a tree, P holds of what it means
abbrev pub Gives : (Data → Type 0) → (Data → Plain → Type 0) → (Plain → Type 0) → Type 0
Gives R M P = (d : Data) (p : Plain) → R d → M d p → P p

module _ (R : Data → Type 0) (M : Data → Plain → Type 0) (P : Plain → Type 0) (f : Gives R M P) where
  -- of each item
  pub each_meant : (ds : Items) (ps : Plains) → EachOf R ds → EachMeans M ds ps → Each P ps
  each_meant no_items no_plains r h = tt
  each_meant no_items (plain.plain p ps) r h = absurd h
  each_meant (item d ds) no_plains r h = absurd h
  each_meant (item d ds) (plain.plain p ps) r h = (f d p r.0 h.0, each_meant ds ps r.1 h.1)

  -- of each member of a map
  pub each_entry_meant : (ms : Members) (es : Entries) → EachMemberOf R ms → EachEntryMeans M ms es → EachEntry P es
  each_entry_meant no_members no_entries r h = tt
  each_entry_meant no_members (entry k p es) r h = absurd h
  each_entry_meant (member l d ms) no_entries r h = absurd h
  each_entry_meant (member l d ms) (entry k p es) r h = (f d p r.0 h.1, each_entry_meant ms es r.1 h.2)

  -- of a member that is there
  there_meant : (found : Option Data) (x : Slot) → OfSome R found → IsThere M found x → IsFilled P x
  there_meant None x r h = absurd h
  there_meant (Some d) empty r h = absurd h
  there_meant (Some d) (filled p) r h = f d p r h

  -- of a member that may be there
  there_or_meant : (found : Option Data) (x : Slot) → OfSome R found → IsThereOr empty M found x → IfFilled P x
  there_or_meant None x r h = subst (IfFilled P) (sym h) tt
  there_or_meant (Some d) empty r h = absurd h
  there_or_meant (Some d) (filled p) r h = f d p r h

  -- of a listed member
  member_meant : (presence : Presence) → IfDefault P presence → (found : Option Data) (x : Slot) → OfSome R found → MeansMember presence M found x → FitsMember presence P x
  member_meant required w found x r h = there_meant found x r h
  member_meant (defaulted q) w None x r h = subst (IsFilled P) (sym h) w
  member_meant (defaulted q) w (Some d) x r h = there_meant (Some d) x r h
  member_meant optional w found x r h = there_or_meant (option_and_then unless_null found) x (not_null_of R found r) h
  member_meant nullable w found x r h = there_or_meant (option_and_then unless_null found) x (not_null_of R found r) h
  member_meant unless_empty w found x r h = there_or_meant (option_and_then unless_null found) x (not_null_of R found r) h

  -- of a listed member under either of its names
  pub either_meant : (presence : Presence) → IfDefault P presence → (found second : Option Data) (x : Slot) → OfSome R found → OfSome R second
      → MeansEither presence M found second x → FitsMember presence P x
  either_meant presence w found None x r q h = member_meant presence w found x r h
  either_meant presence w None (Some d) x r q h = member_meant presence w (Some d) x q h
  either_meant presence w (Some c) (Some d) x r q h = absurd h

-- what is there, if anything is
pub if_there : (P : Plain → Type 0) (presence : Presence) (x : Slot) → FitsMember presence P x → IfFilled P x
if_there P required empty h = tt
if_there P required (filled p) h = h
if_there P (defaulted q) empty h = tt
if_there P (defaulted q) (filled p) h = h
if_there P optional x h = h
if_there P nullable x h = h
if_there P unless_empty x h = h
