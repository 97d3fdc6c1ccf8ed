-- A value, and the same with members left out that are null: what is read of the one is read of the other.
use Rattle.std.proofs.Common.{◌≡◌, ℕ, suc, List, Ordering, Less, Equal, Greater, nat_cmp, Option, Some, None, option_and_then, refl, sym, ap, ◌∙◌, subst, inl, inr}
use Rattle.std.specs.Prelude.{⊤}
use Rattle.std.specs.Cmp.Lexicographic.{slice_cmp}
use Rattle.std.specs.Ordering.{match_ordering}
use Rattle.std.proofs.lemmas.Map.Lookups.{exact_bytes}
use Rattle.serde_json.specs.Data.{Data, null, boolean, number, string, array, object, Items, no_items, item, Members, no_members, member}
use Rattle.serde_json.specs.Events.{items_len, members_len}
use Rattle.serde_json.specs.Find.{as_bool, as_number, as_integer, as_str, as_array, as_object, get, get_member}
use Rattle.oci_json.specs.Readable.{IsBefore, IsInOrder}
use Rattle.oci_model.specs.Means.{as_whole, is_object, unless_null}
use Rattle.oci_schema.specs.Leads.{Have, IsOrderly, AreOrderly, HoldOrderly}
use Rattle.oci_rules.specs.Parts.{present}
use Rattle.oci_rules.specs.Nulls.{LeavesOutNulls, unchanged, in_items, in_members, EachLeavesOutNulls, no_item, an_item, MembersLeaveOutNulls, no_member, stays, left_out}

-- an orderly value, and the same with members left out that are null
pub record Thins (d e : Data) : Type 0 where
  pub order : IsOrderly d
  pub out : LeavesOutNulls d e

pub record EachThins (ds es : Items) : Type 0 where
  pub order : AreOrderly ds
  pub out : EachLeavesOutNulls ds es

pub record MembersThin (ms ns : Members) : Type 0 where
  pub order : IsInOrder ms
  pub each : HoldOrderly ms
  pub out : MembersLeaveOutNulls ms ns

abbrev pub Alike : Option Data → Option Data → Type 0
Alike None None = ⊤
Alike None (Some e) = ⊥
Alike (Some d) None = ⊥
Alike (Some d) (Some e) = Thins d e

abbrev pub AlikeItems : Option Items → Option Items → Type 0
AlikeItems None None = ⊤
AlikeItems None (Some es) = ⊥
AlikeItems (Some ds) None = ⊥
AlikeItems (Some ds) (Some es) = EachThins ds es

abbrev pub AlikeMembers : Option Members → Option Members → Type 0
AlikeMembers None None = ⊤
AlikeMembers None (Some ns) = ⊥
AlikeMembers (Some ms) None = ⊥
AlikeMembers (Some ms) (Some ns) = MembersThin ms ns

-- ---- what is no member of it

pub str_same : (d e : Data) → LeavesOutNulls d e → as_str d ≡ as_str e
str_same _ _ unchanged = refl
str_same _ _ (in_items h) = refl
str_same _ _ (in_members h) = refl

pub bool_same : (d e : Data) → LeavesOutNulls d e → as_bool d ≡ as_bool e
bool_same _ _ unchanged = refl
bool_same _ _ (in_items h) = refl
bool_same _ _ (in_members h) = refl

pub number_same : (d e : Data) → LeavesOutNulls d e → as_number d ≡ as_number e
number_same _ _ unchanged = refl
number_same _ _ (in_items h) = refl
number_same _ _ (in_members h) = refl

pub whole_same : (d e : Data) → LeavesOutNulls d e → as_whole d ≡ as_whole e
whole_same d e h = ap (option_and_then as_integer) (number_same d e h)

pub object_same : (d e : Data) → LeavesOutNulls d e → is_object d ≡ is_object e
object_same _ _ unchanged = refl
object_same _ _ (in_items h) = refl
object_same _ _ (in_members h) = refl

null_only : (d e : Data) → LeavesOutNulls d e → e ≡ null → d ≡ null
null_only _ _ unchanged is = is
null_only _ _ (in_items h) is = cc
null_only _ _ (in_members h) is = cc

-- ---- items and members

each_unchanged : (ds : Items) → EachLeavesOutNulls ds ds
each_unchanged no_items = no_item
each_unchanged (item d ds) = an_item unchanged (each_unchanged ds)

all_stay : (ms : Members) → MembersLeaveOutNulls ms ms
all_stay no_members = no_member
all_stay (member name d ms) = stays unchanged (all_stay ms)

items_in : (d e : Data) → IsOrderly d → LeavesOutNulls d e → AlikeItems (as_array d) (as_array e)
items_in null _ order unchanged = tt
items_in (boolean b) _ order unchanged = tt
items_in (number n) _ order unchanged = tt
items_in (string t) _ order unchanged = tt
items_in (array ds) _ order unchanged = record { order = order.1; out = each_unchanged ds }
items_in (array ds) _ order (in_items h) = record { order = order.1; out = h }
items_in (object ms) _ order unchanged = tt
items_in (object ms) _ order (in_members h) = tt

pub items_alike : (d e : Data) → Thins d e → AlikeItems (as_array d) (as_array e)
items_alike d e h = items_in d e h.order h.out

members_in : (d e : Data) → IsOrderly d → LeavesOutNulls d e → AlikeMembers (as_object d) (as_object e)
members_in null _ order unchanged = tt
members_in (boolean b) _ order unchanged = tt
members_in (number n) _ order unchanged = tt
members_in (string t) _ order unchanged = tt
members_in (array ds) _ order unchanged = tt
members_in (array ds) _ order (in_items h) = tt
members_in (object ms) _ order unchanged = record { order = order.0; each = order.1; out = all_stay ms }
members_in (object ms) _ order (in_members h) = record { order = order.0; each = order.1; out = h }

pub members_alike : (d e : Data) → Thins d e → AlikeMembers (as_object d) (as_object e)
members_alike d e h = members_in d e h.order h.out

value_in : (d e : Data) → IsOrderly d → LeavesOutNulls d e → Alike (unless_null d) (unless_null e)
value_in null _ order unchanged = tt
value_in (boolean b) _ order unchanged = record { order = order; out = unchanged }
value_in (number n) _ order unchanged = record { order = order; out = unchanged }
value_in (string t) _ order unchanged = record { order = order; out = unchanged }
value_in (array ds) _ order unchanged = record { order = order; out = unchanged }
value_in (array ds) _ order (in_items h) = record { order = order; out = in_items h }
value_in (object ms) _ order unchanged = record { order = order; out = unchanged }
value_in (object ms) _ order (in_members h) = record { order = order; out = in_members h }

pub value_alike : (d e : Data) → Thins d e → Alike (unless_null d) (unless_null e)
value_alike d e h = value_in d e h.order h.out

-- ---- a member of this name

abbrev shown : Option Data → Option Data
shown o = option_and_then unless_null o

none_before : (name : List ℕ) (ms : Members) → IsBefore name ms → get_member name ms ≡ None
none_before name no_members h = refl
none_before name (member k d ms) h = rw h.0 (none_before name ms h.1)

before_left : (name : List ℕ) (ms ns : Members) → MembersLeaveOutNulls ms ns → IsBefore name ms → IsBefore name ns
before_left name _ _ no_member before = tt
before_left name _ _ (stays {ms = ms} {ns = ns} same rest) before = (before.0, before_left name ms ns rest before.1)
before_left name _ _ (left_out {ms = ms} {ns = ns} rest) before = before_left name ms ns rest before.1

one_stays : (o : Ordering) (a b : Option Data) (d e : Data) → Alike (shown a) (shown b) → Alike (unless_null d) (unless_null e)
    → Alike (shown (match_ordering o a (Some d) a)) (shown (match_ordering o b (Some e) b))
one_stays Less a b d e rest is = rest
one_stays Equal a b d e rest is = is
one_stays Greater a b d e rest is = rest

one_left_out : (o : Ordering) (name k : List ℕ) (a : Option Data) (ns : Members) → slice_cmp nat_cmp name k ≡ o → IsBefore k ns → Alike (shown a) (shown (get_member name ns))
    → Alike (shown (match_ordering o a (Some null) a)) (shown (get_member name ns))
one_left_out Less name k a ns is before rest = rest
one_left_out Equal name k a ns is before rest =
    let none : get_member name ns ≡ None = ap (λ q. get_member q ns) (exact_bytes name k is) ∙ none_before k ns before in
    subst (λ o. Alike None (shown o)) (sym none) tt
one_left_out Greater name k a ns is before rest = rest

member_in : (name : List ℕ) (ms ns : Members) → MembersLeaveOutNulls ms ns → IsInOrder ms → HoldOrderly ms → Alike (shown (get_member name ms)) (shown (get_member name ns))
member_in name _ _ no_member order each = tt
member_in name _ _ (stays {name = k} {d = d} {e = e} {ms = ms} {ns = ns} same rest) order each =
    one_stays (slice_cmp nat_cmp name k) (get_member name ms) (get_member name ns) d e (member_in name ms ns rest order.1 each.1) (value_in d e each.0 same)
member_in name _ _ (left_out {name = k} {ms = ms} {ns = ns} rest) order each =
    one_left_out (slice_cmp nat_cmp name k) name k (get_member name ms) ns refl (before_left k ms ns rest order.0) (member_in name ms ns rest order.1 each.1)

present_in : (name : List ℕ) (d e : Data) → IsOrderly d → LeavesOutNulls d e → Alike (present name d) (present name e)
present_in name null _ order unchanged = tt
present_in name (boolean b) _ order unchanged = tt
present_in name (number n) _ order unchanged = tt
present_in name (string t) _ order unchanged = tt
present_in name (array ds) _ order unchanged = tt
present_in name (array ds) _ order (in_items h) = tt
present_in name (object ms) _ order unchanged = member_in name ms ms (all_stay ms) order.0 order.1
present_in name (object ms) _ order (in_members {ns = ns} h) = member_in name ms ns h order.0 order.1

pub present_alike : (name : List ℕ) (d e : Data) → Thins d e → Alike (present name d) (present name e)
present_alike name d e h = present_in name d e h.order h.out

-- ---- a null that stays was there

one_was : (o : Ordering) (a b : Option Data) (d e : Data) → (b ≡ Some null → a ≡ Some null) → (e ≡ null → d ≡ null)
    → match_ordering o b (Some e) b ≡ Some null → match_ordering o a (Some d) a ≡ Some null
one_was Less a b d e rest is h = rest h
one_was Equal a b d e rest is h = let same : e ≡ null = cc in ap Some (is same)
one_was Greater a b d e rest is h = rest h

one_goes : (o : Ordering) (a b : Option Data) → (b ≡ Some null → a ≡ Some null) → b ≡ Some null → match_ordering o a (Some null) a ≡ Some null
one_goes Less a b rest h = rest h
one_goes Equal a b rest h = refl
one_goes Greater a b rest h = rest h

member_was : (name : List ℕ) (ms ns : Members) → MembersLeaveOutNulls ms ns → get_member name ns ≡ Some null → get_member name ms ≡ Some null
member_was name _ _ no_member h = h
member_was name _ _ (stays {name = k} {d = d} {e = e} {ms = ms} {ns = ns} same rest) h =
    one_was (slice_cmp nat_cmp name k) (get_member name ms) (get_member name ns) d e (member_was name ms ns rest) (null_only d e same) h
member_was name _ _ (left_out {name = k} {ms = ms} {ns = ns} rest) h = one_goes (slice_cmp nat_cmp name k) (get_member name ms) (get_member name ns) (member_was name ms ns rest) h

pub null_was : (name : List ℕ) (d e : Data) → LeavesOutNulls d e → get name e ≡ Some null → get name d ≡ Some null
null_was name _ _ unchanged h = h
null_was name _ _ (in_items rest) h = h
null_was name _ _ (in_members {ms = ms} {ns = ns} rest) h = member_was name ms ns rest h

-- ---- how many

pub items_len_same : (ds es : Items) → EachLeavesOutNulls ds es → items_len ds ≡ items_len es
items_len_same _ _ no_item = refl
items_len_same _ _ (an_item {ds = ds} {es = es} same rest) = ap suc (items_len_same ds es rest)

pub members_len_same : (ms ns : Members) → MembersLeaveOutNulls ms ns → ((name : List ℕ) → Have ms name null → ⊥) → members_len ms ≡ members_len ns
members_len_same _ _ no_member none = refl
members_len_same _ _ (stays {ms = ms} {ns = ns} same rest) none = ap suc (members_len_same ms ns rest (λ name has. none name (inr has)))
members_len_same _ _ (left_out {name = k} rest) none = absurd (none k (inl (refl, refl)))

-- ---- what is read of a member

pub through_null : {A : Type 0} (f : Data → Option A) → f null ≡ None → (o : Option Data) → option_and_then f o ≡ option_and_then f (shown o)
through_null f none None = refl
through_null f none (Some null) = none
through_null f none (Some (boolean b)) = refl
through_null f none (Some (number n)) = refl
through_null f none (Some (string t)) = refl
through_null f none (Some (array ds)) = refl
through_null f none (Some (object ms)) = refl

pub read_same : {A : Type 0} (f : Data → Option A) → ((c b : Data) → Thins c b → f c ≡ f b) → (x y : Option Data) → Alike x y → option_and_then f x ≡ option_and_then f y
read_same f same None None h = refl
read_same f same None (Some e) h = absurd h
read_same f same (Some d) None h = absurd h
read_same f same (Some d) (Some e) h = same d e h

pub member_read : {A : Type 0} (f : Data → Option A) → f null ≡ None → ((c b : Data) → Thins c b → f c ≡ f b) → (name : List ℕ) (d e : Data) → Thins d e
    → option_and_then f (get name d) ≡ option_and_then f (get name e)
member_read f none same name d e h =
    through_null f none (get name d) ∙ read_same f same (present name d) (present name e) (present_alike name d e h) ∙ sym (through_null f none (get name e))

pub items_read : (x y : Option Data) → Alike x y → AlikeItems (option_and_then as_array x) (option_and_then as_array y)
items_read None None h = tt
items_read None (Some e) h = absurd h
items_read (Some d) None h = absurd h
items_read (Some d) (Some e) h = items_alike d e h

pub on_alike : (f : Data → Option Data) → ((c b : Data) → Thins c b → Alike (f c) (f b)) → (x y : Option Data) → Alike x y → Alike (option_and_then f x) (option_and_then f y)
on_alike f same None None h = tt
on_alike f same None (Some e) h = absurd h
on_alike f same (Some d) None h = absurd h
on_alike f same (Some d) (Some e) h = same d e h
