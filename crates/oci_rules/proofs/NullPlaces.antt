-- What breaks rules is the same with members left out that are null.
use Rattle.std.proofs.Common.{◌≡◌, ℕ, zero, suc, ◌+◌, List, [], ◌∷◌, ◌++◌, Bool, true, false, ◌&&◌, not, Option, Some, None, codes, cond, refl, sym, ap, ◌∙◌, inl, inr, true≢false}
use Rattle.std.specs.List.{Contains, list_all}
use Rattle.std.proofs.lemmas.List.Elements.{Contains-append_right}
use Rattle.serde_json.specs.Data.{Data, null, string, Items, Members}
use Rattle.serde_json.specs.Find.{as_array, as_object, get_item}
use Rattle.oci_schema.specs.EachPart.{of_each, of_items, of_each_member, of_members, of_part}
use Rattle.oci_schema.specs.Leads.{Have, IsOrderly, AreOrderly, HoldOrderly}
use Rattle.oci_schema.specs.Places.{under_name, under_index}
use Rattle.oci_schema.proofs.EachPart.{no_some}
use Rattle.oci_rules.specs.Breaks.{Told}
use Rattle.oci_rules.specs.Decided.{holds, has}
use Rattle.oci_rules.specs.Documents.{platform_in}
use Rattle.oci_rules.specs.Listed.{told_by, of_each_name, of_names, when, told_at, told_of, all_broken}
use Rattle.oci_rules.specs.Nulls.{LeavesOutNulls, unchanged, EachLeavesOutNulls, no_item, an_item, MembersLeaveOutNulls, no_member, stays, left_out, AsksOfNull, MeetsNull, Minds, looks_at_values, asks_of_values, minds_no_null}
use Rattle.oci_rules.specs.Parts.{present}
use Rattle.oci_rules.specs.Platforms.{is_for}
use Rattle.oci_rules.specs.Rules.{Platform, linux, windows, solaris, vm, zos, freebsd, Test, not_null, not_empty, length_at_most, Place, here, under, each_item, each_member, each_name, if_so, Rule}
use Rattle.oci_rules.proofs.Deciding.{holds_tells}
use Rattle.oci_rules.proofs.Found.{first_in}
use Rattle.oci_rules.proofs.NullReads.{Thins, Alike, AlikeItems, AlikeMembers, items_alike, members_alike, present_alike}
use Rattle.oci_rules.proofs.NullParts.{ap_two, has_same}
use Rattle.oci_rules.proofs.NullTests.{holds_same, told_same, null_told}

abbrev Listing : Type 0
Listing = List ℕ → Data → List Told

-- ---- each part

part_same : (f g : Listing) (at : List ℕ) (x y : Option Data) → Alike x y → ((c b : Data) → x ≡ Some c → Thins c b → f at c ≡ g at b) → of_part f at x ≡ of_part g at y
part_same f g at None None h same = refl
part_same f g at None (Some e) h same = absurd h
part_same f g at (Some d) None h same = absurd h
part_same f g at (Some d) (Some e) h same = same d e refl h

-- what is listed of each item is the same, wherever it stands
abbrev SameItems : Listing → Listing → Items → Type 0
SameItems f g ds = (j : ℕ) (c b : Data) (at : List ℕ) → get_item j ds ≡ Some c → Thins c b → f at c ≡ g at b

each_same : (f g : Listing) (at : List ℕ) (i : ℕ) (ds es : Items) → EachLeavesOutNulls ds es → AreOrderly ds → SameItems f g ds → of_each f at i ds ≡ of_each g at i es
each_same f g at i _ _ no_item order same = refl
each_same f g at i _ _ (an_item {d = d} {e = e} {ds = ds} {es = es} one rest) order same =
    ap_two (λ x y. x ++ y) (same zero d e (under_index at i) refl (record { order = order.0; out = one }))
    (each_same f g at (i + 1) ds es rest order.1 (λ j c b there is. same (suc j) c b there is))

items_same : (f g : Listing) (at : List ℕ) (x y : Option Items) → AlikeItems x y → ((ds : Items) → x ≡ Some ds → SameItems f g ds) → of_items f at x ≡ of_items g at y
items_same f g at None None h same = refl
items_same f g at None (Some es) h same = absurd h
items_same f g at (Some ds) None h same = absurd h
items_same f g at (Some ds) (Some es) h same = each_same f g at 0 ds es h.out h.order (same ds refl)

abbrev SameMembers : Listing → Listing → Members → Type 0
SameMembers f g ms = (name : List ℕ) (c b : Data) (at : List ℕ) → Have ms name c → Thins c b → f at c ≡ g at b

each_member_same : (f g : Listing) (at : List ℕ) (ms ns : Members) → MembersLeaveOutNulls ms ns → HoldOrderly ms → ((there : List ℕ) → f there null ≡ []) → SameMembers f g ms
    → of_each_member f at ms ≡ of_each_member g at ns
each_member_same f g at _ _ no_member order none same = refl
each_member_same f g at _ _ (stays {name = k} {d = d} {e = e} {ms = ms} {ns = ns} one rest) order none same =
    ap_two (λ x y. x ++ y) (same k d e (under_name at k) (inl (refl, refl)) (record { order = order.0; out = one }))
    (each_member_same f g at ms ns rest order.1 none (λ name c b there is. same name c b there (inr is)))
each_member_same f g at _ _ (left_out {name = k} {ms = ms} {ns = ns} rest) order none same =
    ap (λ told. told ++ of_each_member f at ms) (none (under_name at k)) ∙ each_member_same f g at ms ns rest order.1 none (λ name c b there is. same name c b there (inr is))

members_same : (f g : Listing) (at : List ℕ) (x y : Option Members) → AlikeMembers x y → ((there : List ℕ) → f there null ≡ []) → ((ms : Members) → x ≡ Some ms → SameMembers f g ms)
    → of_members f at x ≡ of_members g at y
members_same f g at None None h none same = refl
members_same f g at None (Some ns) h none same = absurd h
members_same f g at (Some ms) None h none same = absurd h
members_same f g at (Some ms) (Some ns) h none same = each_member_same f g at ms ns h.out h.each none (same ms refl)

abbrev SameNames : Listing → Listing → Type 0
SameNames f g = (name at : List ℕ) → f at (string name) ≡ g at (string name)

each_name_same : (f g : Listing) (at : List ℕ) (ms ns : Members) → MembersLeaveOutNulls ms ns → ((name : List ℕ) → Have ms name null → ⊥) → SameNames f g
    → of_each_name f at ms ≡ of_each_name g at ns
each_name_same f g at _ _ no_member none same = refl
each_name_same f g at _ _ (stays {name = k} {ms = ms} {ns = ns} one rest) none same =
    ap_two (λ x y. x ++ y) (same k (under_name at k)) (each_name_same f g at ms ns rest (λ name is. none name (inr is)) same)
each_name_same f g at _ _ (left_out {name = k} rest) none same = absurd (none k (inl (refl, refl)))

names_same : (f g : Listing) (at : List ℕ) (x y : Option Members) → AlikeMembers x y → ((ms : Members) → x ≡ Some ms → (name : List ℕ) → Have ms name null → ⊥) → SameNames f g
    → of_names f at x ≡ of_names g at y
names_same f g at None None h none same = refl
names_same f g at None (Some ns) h none same = absurd h
names_same f g at (Some ms) None h none same = absurd h
names_same f g at (Some ms) (Some ns) h none same = each_name_same f g at ms ns h.out (none ms refl) same

when_same : (a b : Bool) (xs ys : List Told) → a ≡ b → (a ≡ true → xs ≡ ys) → when a xs ≡ when b ys
when_same true true xs ys e same = same refl
when_same true false xs ys e same = absurd (true≢false e)
when_same false true xs ys e same = absurd (true≢false (sym e))
when_same false false xs ys e same = refl

-- ---- places

when_none : (b : Bool) (told : List Told) → told ≡ [] → when b told ≡ []
when_none true told none = none
when_none false told none = refl

null_at : (root : Data) (t : Test) (r : Rule) (p : Place) (at : List ℕ) → told_at root p (told_by t r) at null ≡ []
null_at root t r here at = null_told t r at
null_at root t r (under name p) at = refl
null_at root t r (each_item p) at = refl
null_at root t r (each_member p) at = refl
null_at root t r (each_name p) at = refl
null_at root t r (if_so c p) at = when_none (holds root c null) (told_at root p (told_by t r) at null) (null_at root t r p at)

-- a text has no members
text_asks : (t : Test) (s : List ℕ) → AsksOfNull t (string s) → ⊥
text_asks (not_null name) s is = cc
text_asks not_empty s is = let (name, has) = is in let (ms, none, there) = has in no_some ms none
text_asks (length_at_most most) s is = let (name, has) = is in let (ms, none, there) = has in no_some ms none
text_asks _ s is = is

text_meets : (root : Data) (p : Place) (t : Test) (s : List ℕ) → MeetsNull root p t (string s) → ⊥
text_meets root here t s is = text_asks t s is
text_meets root (under name p) t s is = let (c, none, rest) = is in no_some c none
text_meets root (each_item p) t s is = let (i, c, has, rest) = is in let (ds, none, there) = has in no_some ds none
text_meets root (each_member p) t s is = let (name, c, has, rest) = is in let (ms, none, there) = has in no_some ms none
text_meets root (each_name p) t s is = let (name, has) = is in let (ms, none, there) = has in no_some ms none
text_meets root (if_so c p) t s is = text_meets root p t s is.1

module _ (root other : Data) (all : Thins root other) (t : Test) (r : Rule) where
  abbrev old : Place → Listing
  old p = told_at root p (told_by t r)

  abbrev new : Place → Listing
  new p = told_at other p (told_by t r)

  at_same : (p : Place) (at : List ℕ) (d e : Data) → Thins d e → (MeetsNull root p t d → ⊥) → old p at d ≡ new p at e
  at_same here at d e h none = told_same t r at d e h none
  at_same (under name p) at d e h none =
      part_same (old p) (new p) (under_name at name) (present name d) (present name e) (present_alike name d e h)
      (λ c b is k. at_same p (under_name at name) c b k (λ meets. none (c, is, meets)))
  at_same (each_item p) at d e h none =
      items_same (old p) (new p) at (as_array d) (as_array e) (items_alike d e h) (λ ds is j c b there found k. at_same p there c b k (λ meets. none (j, c, (ds, is, found), meets)))
  at_same (each_member p) at d e h none =
      members_same (old p) (new p) at (as_object d) (as_object e) (members_alike d e h) (λ there. null_at root t r p there)
      (λ ms is name c b there has k. at_same p there c b k (λ meets. none (name, c, (ms, is, has), meets)))
  at_same (each_name p) at d e h none =
      names_same (old p) (new p) at (as_object d) (as_object e) (members_alike d e h) (λ ms is name has. none (name, (ms, is, has)))
      (λ name there. at_same p there (string name) (string name) (record { order = tt; out = unchanged }) (text_meets root p t name))
  at_same (if_so c p) at d e h none =
      when_same (holds root c d) (holds other c e) (old p at d) (new p at e) (holds_same root other all c d e h)
      (λ so. at_same p at d e h (λ meets. none ((holds_tells root c d).0 so, meets)))

-- ---- rules

thins : (d e : Data) → IsOrderly d → LeavesOutNulls d e → Thins d e
thins d e order out = record { order = order; out = out }

rule_same : (r : Rule) (d e : Data) → Thins d e → (Minds r d → ⊥) → told_of r d ≡ told_of r e
rule_same r d e h none = at_same d e h r.test r r.place [] d e h none

rules_same : (rs : List Rule) (p : Platform) (d e : Data) → Thins d e → ((r : Rule) → Contains rs r → Minds r d → ⊥) → all_broken rs p d ≡ all_broken rs p e
rules_same [] p d e h none = refl
rules_same (r ∷ rs) p d e h none =
    ap_two (λ x y. when (is_for p r.platforms) x ++ y) (rule_same r d e h (none r (first_in r rs)))
    (rules_same rs p d e h (λ q has. none q (Contains-append_right (r ∷ []) rs q has)))

pub same : (rs : List Rule) (p : Platform) (d e : Data) → IsOrderly d → LeavesOutNulls d e → ((r : Rule) → Contains rs r → ¬ Minds r d) → all_broken rs p d ≡ all_broken rs p e
same rs p d e order out none = rules_same rs p d e (thins d e order out) none

-- ---- rules that mind no null

asks_none : (t : Test) (d : Data) → asks_of_values t ≡ true → AsksOfNull t d → ⊥
asks_none (not_null name) d so asks = true≢false (sym so)
asks_none not_empty d so asks = true≢false (sym so)
asks_none (length_at_most most) d so asks = true≢false (sym so)
asks_none _ d so asks = asks

pub meets_none : (root : Data) (p : Place) (t : Test) (d : Data) → looks_at_values p ≡ true → asks_of_values t ≡ true → MeetsNull root p t d → ⊥
meets_none root here t d looks so meets = asks_none t d so meets
meets_none root (under name p) t d looks so meets = let (c, is, rest) = meets in meets_none root p t c looks so rest
meets_none root (each_item p) t d looks so meets = let (i, c, has, rest) = meets in meets_none root p t c looks so rest
meets_none root (each_member p) t d looks so meets = let (name, c, has, rest) = meets in meets_none root p t c looks so rest
meets_none root (each_name p) t d looks so meets = true≢false (sym looks)
meets_none root (if_so c p) t d looks so meets = meets_none root p t d looks so meets.1

pub both : (a b : Bool) → (a && b) ≡ true → (a ≡ true) × (b ≡ true)
both true true e = (refl, refl)
both true false e = absurd (true≢false (sym e))
both false b e = absurd (true≢false (sym e))

rules_blind : (rs : List Rule) (p : Platform) (d e : Data) → Thins d e → list_all minds_no_null rs ≡ true → all_broken rs p d ≡ all_broken rs p e
rules_blind [] p d e h none = refl
rules_blind (r ∷ rs) p d e h none =
    let (one, rest) = both (minds_no_null r) (list_all minds_no_null rs) none in
    let (looks, asks) = both (looks_at_values r.place) (asks_of_values r.test) one in
    ap_two (λ x y. when (is_for p r.platforms) x ++ y) (rule_same r d e h (meets_none d r.place r.test d looks asks)) (rules_blind rs p d e h rest)

pub whatever : (rs : List Rule) (p : Platform) (d e : Data) → IsOrderly d → LeavesOutNulls d e → list_all minds_no_null rs ≡ true → all_broken rs p d ≡ all_broken rs p e
whatever rs p d e order out none = rules_blind rs p d e (thins d e order out) none

-- ---- the platform

-- by which parts are there: of Windows, Linux, z/OS, Solaris, FreeBSD and a virtual machine
abbrev of_parts : Bool → Bool → Bool → Bool → Bool → Bool → Platform
of_parts w l z s f v = cond (w && not l) windows (cond z zos (cond s solaris (cond f freebsd (cond (v && not l) vm linux))))

pub platform_same : (d e : Data) → IsOrderly d → LeavesOutNulls d e → platform_in d ≡ platform_in e
platform_same d e order out =
    let h : Thins d e = thins d e order out in
    ap_two (λ w l. of_parts w l (has d (codes "zos")) (has d (codes "solaris")) (has d (codes "freebsd")) (has d (codes "vm"))) (has_same (codes "windows") d e h) (has_same (codes "linux") d e h)
    ∙ ap_two (λ z s. of_parts (has e (codes "windows")) (has e (codes "linux")) z s (has d (codes "freebsd")) (has d (codes "vm"))) (has_same (codes "zos") d e h) (has_same (codes "solaris") d e h)
    ∙ ap_two (λ f v. of_parts (has e (codes "windows")) (has e (codes "linux")) (has e (codes "zos")) (has e (codes "solaris")) f v) (has_same (codes "freebsd") d e h) (has_same (codes "vm") d e h)
