-- The last member of a name, which `put` keeps, is the one that a look-up in the tape finds.
use Rattle.std.proofs.Common.{◌≡◌, Bor, ℕ, List, true, false, true≢false, Option, Some, None, option_map, option_and_then, bytes_eq, refl, sym, ap, ◌∙◌}
use Rattle.std.proofs.lemmas.Slice.Eq.{bytes_eq-Decides}
use Rattle.std.specs.Prelude.{is_some}
use Rattle.json.specs.Json as json
use Rattle.json.specs.Find as tape
use Rattle.json.specs.Token.{Token}
use Rattle.json.specs.Find.{BeginsWith, Finds}
use Rattle.json.proofs.Found.{not_found, Some_inj}
use Rattle.serde_json.specs.Data.{Data, null, boolean, number, string, array, object, Members, no_members, put}
use Rattle.serde_json.specs.Find.{get_member, as_bool, as_null, as_str, as_number}
use Rattle.serde_json.specs.Read.{number_of, of_json, of_items, of_members}
use Rattle.oci_json_tape.specs.Elements.{BeginsWithData}
use Rattle.serde_json.proofs.Views.{get_member-put, get_member-put_other}

pub parts : {A B : Type 0} (f : A → Option B) (o : Option A) (b : B) → option_and_then f o ≡ Some b → (a : A) × (o ≡ Some a) × (f a ≡ Some b)
parts f None b e = not_found b e
parts f (Some a) b e = (a, refl, e)

pub mapped_parts : {A B : Type 0} (f : A → B) (o : Option A) (b : B) → option_map f o ≡ Some b → (a : A) × (o ≡ Some a) × (b ≡ f a)
mapped_parts f None b e = not_found b e
mapped_parts f (Some a) b e = (a, refl, sym (Some_inj (f a) b e))

-- a string's text is the data's: the tape holds it unescaped
pub as_str-of_json : (j : json.Json) (d : Data) → of_json j ≡ Some d → as_str d ≡ tape.as_str j
as_str-of_json json.null d e = ap as_str (sym (Some_inj null d e))
as_str-of_json (json.boolean b) d e = ap as_str (sym (Some_inj (boolean b) d e))
as_str-of_json (json.number s) d e = let p = mapped_parts number (number_of s) d e in ap as_str p.2
as_str-of_json (json.string s) d e = ap as_str (sym (Some_inj (string s) d e))
as_str-of_json (json.array js) d e = let p = mapped_parts array (of_items js) d e in ap as_str p.2
as_str-of_json (json.object ms) d e = let p = mapped_parts object (of_members ms no_members) d e in ap as_str p.2

pub get_member-put_here : (name key : List ℕ) (d : Data) (found : Members) → bytes_eq name key ≡ true → get_member key (put name d found) ≡ Some d
get_member-put_here name key d found same =
    let is : name ≡ key = (bytes_eq-Decides name key).0 same in
    ap (λ n. get_member n (put name d found)) (sym is) ∙ get_member-put name d found

pub get_member-put_there : (name key : List ℕ) (d : Data) (found : Members) → bytes_eq name key ≡ false → get_member key (put name d found) ≡ get_member key found
get_member-put_there name key d found same =
    get_member-put_other key name d found (λ h. true≢false (sym ((bytes_eq-Decides name key).1 (sym h)) ∙ same))

-- a number's text is the data's number
pub as_number-of_json : (j : json.Json) (d : Data) → of_json j ≡ Some d → as_number d ≡ option_and_then number_of (tape.as_number j)
as_number-of_json json.null d e = ap as_number (sym (Some_inj null d e))
as_number-of_json (json.boolean b) d e = ap as_number (sym (Some_inj (boolean b) d e))
as_number-of_json (json.number s) d e = let p = mapped_parts number (number_of s) d e in ap as_number p.2 ∙ sym p.1
as_number-of_json (json.string s) d e = ap as_number (sym (Some_inj (string s) d e))
as_number-of_json (json.array js) d e = let p = mapped_parts array (of_items js) d e in ap as_number p.2
as_number-of_json (json.object ms) d e = let p = mapped_parts object (of_members ms no_members) d e in ap as_number p.2

pub number_is : (r : Option (Bor (List ℕ))) (ts : List Token) → ((j : json.Json) → BeginsWith ts j → option_map (λ s. s.now) r ≡ tape.as_number j) → (d : Data) → BeginsWithData ts d
    → as_number d ≡ option_and_then number_of (option_map (λ s. s.now) r)
number_is r ts h d b = as_number-of_json b.0 d b.2 ∙ ap (option_and_then number_of) (sym (h b.0 b.1))

pub as_bool-of_json : (j : json.Json) (d : Data) → of_json j ≡ Some d → as_bool d ≡ tape.as_bool j
as_bool-of_json json.null d e = ap as_bool (sym (Some_inj null d e))
as_bool-of_json (json.boolean b) d e = ap as_bool (sym (Some_inj (boolean b) d e))
as_bool-of_json (json.number s) d e = let p = mapped_parts number (number_of s) d e in ap as_bool p.2
as_bool-of_json (json.string s) d e = ap as_bool (sym (Some_inj (string s) d e))
as_bool-of_json (json.array js) d e = let p = mapped_parts array (of_items js) d e in ap as_bool p.2
as_bool-of_json (json.object ms) d e = let p = mapped_parts object (of_members ms no_members) d e in ap as_bool p.2

pub is_null-of_json : (j : json.Json) (d : Data) → of_json j ≡ Some d → is_some (as_null d) ≡ tape.is_null j
is_null-of_json json.null d e = ap (λ x. is_some (as_null x)) (sym (Some_inj null d e))
is_null-of_json (json.boolean b) d e = ap (λ x. is_some (as_null x)) (sym (Some_inj (boolean b) d e))
is_null-of_json (json.number s) d e = let p = mapped_parts number (number_of s) d e in ap (λ x. is_some (as_null x)) p.2
is_null-of_json (json.string s) d e = ap (λ x. is_some (as_null x)) (sym (Some_inj (string s) d e))
is_null-of_json (json.array js) d e = let p = mapped_parts array (of_items js) d e in ap (λ x. is_some (as_null x)) p.2
is_null-of_json (json.object ms) d e = let p = mapped_parts object (of_members ms no_members) d e in ap (λ x. is_some (as_null x)) p.2
