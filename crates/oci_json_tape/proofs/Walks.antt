-- The steps of a walk.
use Rattle.std.proofs.Common.{◌≡◌, ℕ, List, true, false, Option, Some, None, option_map, bytes_eq, refl, sym, ap, ◌∙◌, subst}
use Rattle.std.specs.Prelude.{MatchOption}
use Rattle.json.specs.Token.{Token}
use Rattle.json.specs.Json as json
use Rattle.json.specs.Find.{BeginsWith, InItems, InMembers, NextItem, NextMember}
use Rattle.json.specs.Find as tape
use Rattle.json.proofs.Found.{not_found, Some_inj}
use Rattle.serde_json.specs.Data.{Data, null, boolean, number, string, array, object, Items, no_items, item, Members, no_members, put}
use Rattle.serde_json.specs.Find.{as_array, as_object, get, get_member}
use Rattle.serde_json.specs.Read.{number_of, of_json, of_items, of_members}
use Rattle.oci_json_tape.specs.Elements.{BeginsWithData, FindsData}
use Rattle.oci_json_tape.specs.Walked.{InItemsData, InMembersData, NextItemData, NextMemberData}
use Rattle.oci_json_tape.proofs.LookUps.{parts, mapped_parts, get_member-put_here, get_member-put_there}

pub next_item_data : (old : List Token) (r : Option (List Token)) (new : List Token) → NextItem old r new → NextItemData old r new
next_item_data old None new h ds (js, at, e) =
    let over : js ≡ json.no_items = h js at in
    sym (Some_inj no_items ds (ap of_items (sym over) ∙ e))
next_item_data old (Some ts) new h ds (js, at, e) =
    let s = h js at in
    let p = parts (λ d. option_map (item d) (of_items s.1)) (of_json s.0) ds (ap of_items (sym s.2) ∙ e) in
    let q = mapped_parts (item p.0) (of_items s.1) ds p.2 in
    (p.0, q.0, q.2, (s.0, s.3, p.1), (s.1, s.4, q.1))

pub next_member_data : (old : List Token) (r : Option (List ℕ × List Token)) (new : List Token) → NextMember old r new → NextMemberData old r new
next_member_data old None new h found out (ms, at, e) =
    let over : ms ≡ json.no_members = h ms at in
    Some_inj found out (ap (λ m. of_members m found) (sym over) ∙ e)
next_member_data old (Some m) new h found out (ms, at, e) =
    let s = h ms at in
    let p = parts (λ d. of_members s.1 (put m.0 d found)) (of_json s.0) out (ap (λ x. of_members x found) (sym s.2) ∙ e) in
    (p.0, (s.0, s.3, p.1), (s.1, s.4, p.2))

as_array-of_json : (j : json.Json) (d : Data) → of_json j ≡ Some d → tape.as_array j ≡ None → as_array d ≡ None
as_array-of_json json.null d e h = ap as_array (sym (Some_inj null d e))
as_array-of_json (json.boolean b) d e h = ap as_array (sym (Some_inj (boolean b) d e))
as_array-of_json (json.number s) d e h = let p = mapped_parts number (number_of s) d e in ap as_array p.2
as_array-of_json (json.string s) d e h = ap as_array (sym (Some_inj (string s) d e))
as_array-of_json (json.array js) d e h = not_found js (sym h)
as_array-of_json (json.object ms) d e h = let p = mapped_parts object (of_members ms no_members) d e in ap as_array p.2

as_object-of_json : (j : json.Json) (d : Data) → of_json j ≡ Some d → tape.as_object j ≡ None → as_object d ≡ None
as_object-of_json json.null d e h = ap as_object (sym (Some_inj null d e))
as_object-of_json (json.boolean b) d e h = ap as_object (sym (Some_inj (boolean b) d e))
as_object-of_json (json.number s) d e h = let p = mapped_parts number (number_of s) d e in ap as_object p.2
as_object-of_json (json.string s) d e h = ap as_object (sym (Some_inj (string s) d e))
as_object-of_json (json.array js) d e h = let p = mapped_parts array (of_items js) d e in ap as_object p.2
as_object-of_json (json.object ms) d e h = not_found ms (sym h)

pub items_data : (ts : List Token) (r : Option (List Token)) → ((j : json.Json) → BeginsWith ts j → MatchOption r (tape.as_array j ≡ None) (λ rest. (js : json.Items) × (j ≡ json.array js) × InItems rest js))
    → (d : Data) → BeginsWithData ts d → MatchOption r (as_array d ≡ None) (λ rest. (ds : Items) × (d ≡ array ds) × InItemsData rest ds)
items_data ts None h d b = as_array-of_json b.0 d b.2 (h b.0 b.1)
items_data ts (Some rest) h d b =
    let s = h b.0 b.1 in
    let p = mapped_parts array (of_items s.0) d (ap of_json (sym s.1) ∙ b.2) in
    (p.0, p.2, (s.0, s.2, p.1))

pub members_data : (ts : List Token) (r : Option (List Token)) → ((j : json.Json) → BeginsWith ts j → MatchOption r (tape.as_object j ≡ None) (λ rest. (ms : json.Members) × (j ≡ json.object ms) × InMembers rest ms))
    → (d : Data) → BeginsWithData ts d → MatchOption r (as_object d ≡ None) (λ rest. (out : Members) × (d ≡ object out) × InMembersData rest no_members out)
members_data ts None h d b = as_object-of_json b.0 d b.2 (h b.0 b.1)
members_data ts (Some rest) h d b =
    let s = h b.0 b.1 in
    let p = mapped_parts object (of_members s.0 no_members) d (ap of_json (sym s.1) ∙ b.2) in
    (p.0, p.2, (s.0, s.2, p.1))

-- ---- a look-up: what was found among the members that were passed

abbrev pub FoundSoFar : List ℕ → Data → List Token → Option (List Token) → Type 0
FoundSoFar name d rest r = (out : Members) × (before : Members) × (d ≡ object out) × InMembersData rest before out × FindsData r (get_member name before)

module _ (name : List ℕ) (d : Data) where
  pub found_begin : (rest : List Token) → (out : Members) × (d ≡ object out) × InMembersData rest no_members out → FoundSoFar name d rest None
  found_begin rest (out, is, left) = (out, no_members, is, left, refl)

  pub found_here : (key : List ℕ) (rest left ts : List Token) (r : Option (List Token)) → bytes_eq key name ≡ true → NextMemberData rest (Some (key, ts)) left → FoundSoFar name d rest r → FoundSoFar name d left (Some ts)
  found_here key rest left ts r same step (out, before, is, at, found) =
      let p = step before out at in
      (out, put key p.0 before, is, p.2, (p.0, get_member-put_here key name p.0 before same, p.1))

  pub found_there : (key : List ℕ) (rest left ts : List Token) (r : Option (List Token)) → bytes_eq key name ≡ false → NextMemberData rest (Some (key, ts)) left → FoundSoFar name d rest r → FoundSoFar name d left r
  found_there key rest left ts r other step (out, before, is, at, found) =
      let p = step before out at in
      (out, put key p.0 before, is, p.2, subst (FindsData r) (sym (get_member-put_there key name p.0 before other)) found)

  pub found_end : (rest left : List Token) (r : Option (List Token)) → NextMemberData rest None left → FoundSoFar name d rest r → FindsData r (get name d)
  found_end rest left r step (out, before, is, at, found) =
      let over = step before out at in
      subst (FindsData r) (ap (get_member name) over ∙ sym (ap (get name) is)) found

-- what is no object has no members
pub none_found : (name : List ℕ) (d : Data) → as_object d ≡ None → get name d ≡ None
none_found name null e = refl
none_found name (boolean b) e = refl
none_found name (number n) e = refl
none_found name (string s) e = refl
none_found name (array ds) e = refl
none_found name (object ms) e = not_found ms (sym e)
