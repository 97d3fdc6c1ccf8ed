-- A walk over a map whose names are in byte order.
use Rattle.std.proofs.Common.{◌≡◌, ℕ, List, [], ◌∷◌, ◌++◌, Bool, true, Bor, Option, Some, None, refl, sym, ap, ◌∙◌, subst, append_assoc, append-nil, nat_cmp, Less, Greater}
use Rattle.std.specs.Prelude.{⊤}
use Rattle.std.specs.Cmp.Lexicographic.{slice_cmp}
use Rattle.std.specs.Ordering.{ordering_reverse}
use Rattle.std.proofs.lemmas.Cmp.{nat_list_cmp_total}
use Rattle.json.specs.Token.{Token, begin_object, end_object, key}
use Rattle.json.specs.Tree.{json_tokens, members_tokens}
use Rattle.serde_json.specs.Data.{Data, object, Members, no_members, member, put}
use Rattle.serde_json.specs.Written.{outline, members_outline}
use Rattle.oci_json.specs.Readable.{IsBefore, IsReadable}
use Rattle.oci_model.specs.Shape.{Shape, map}
use Rattle.oci_json_tape.specs.Walked.{InMembersData, NextMemberData}
use Rattle.oci_schema.specs.Allows.{each_member_allowed}
use Rattle.oci_schema.specs.Normalized.{accepts, normalized, each_member_normalized}
use Rattle.oci_schema.proofs.Decides.{both, first_of, later_of}
use Rattle.oci_schema.specs.Walks.{WritesTree, WritesNormal, IsAfter}

-- the name comes after each of these
abbrev pub AfterAll : List ℕ → Members → Type 0
AfterAll k no_members = ⊤
AfterAll k (member l d ms) = (slice_cmp nat_cmp k l ≡ Greater) × AfterAll k ms

-- one member more at the end
abbrev pub extended : Members → List ℕ → Data → Members
extended no_members k d = member k d no_members
extended (member l e ms) k d = member l e (extended ms k d)

put_last : (k : List ℕ) (d : Data) (ms : Members) → AfterAll k ms → put k d ms ≡ extended ms k d
put_last k d no_members h = refl
put_last k d (member l e ms) h = rw h.0 (ap (member l e) (put_last k d ms h.1))

after_last : (k l : List ℕ) (d : Data) (ms : Members) → slice_cmp nat_cmp k l ≡ Greater → AfterAll k ms → AfterAll k (extended ms l d)
after_last k l d no_members e h = (e, tt)
after_last k l d (member n c ms) e h = (h.0, after_last k l d ms e h.1)

-- the tokens of the members, without the closing bracket
abbrev open_tokens : (Data → Data) → Members → List Token
open_tokens g no_members = []
open_tokens g (member k d ms) = key k ∷ (json_tokens (outline (g d)) ++ open_tokens g ms)

open_closed : (g : Data → Data) (ms : Members) → open_tokens g ms ++ end_object ∷ [] ≡ members_tokens (members_outline (each_member_normalized g ms))
open_closed g no_members = refl
open_closed g (member k d ms) =
    let t = json_tokens (outline (g d)) in
    ap (λ x. key k ∷ x) (append_assoc t (open_tokens g ms) (end_object ∷ []) ∙ ap (λ x. t ++ x) (open_closed g ms))

open_more : (g : Data → Data) (ms : Members) (k : List ℕ) (d : Data) → open_tokens g (extended ms k d) ≡ open_tokens g ms ++ key k ∷ json_tokens (outline (g d))
open_more g no_members k d = ap (λ x. key k ∷ x) (append-nil (json_tokens (outline (g d))))
open_more g (member l e ms) k d =
    let t = json_tokens (outline (g e)) in
    ap (λ x. key l ∷ x) (ap (λ x. t ++ x) (open_more g ms k d) ∙ sym (append_assoc t (open_tokens g ms) (key k ∷ json_tokens (outline (g d)))))

allowed_more : (f : Data → Bool) (ms : Members) (k : List ℕ) (d : Data) → each_member_allowed f ms ≡ true → f d ≡ true → each_member_allowed f (extended ms k d) ≡ true
allowed_more f no_members k d h e = both _ _ e refl
allowed_more f (member l c ms) k d h e = both _ _ (first_of (f c) _ h) (allowed_more f ms k d (later_of (f c) _ h) e)

-- a name before all is before one more at the end
before_last : (l : List ℕ) (g : Data → Data) (ms : Members) (k : List ℕ) (d : Data) → slice_cmp nat_cmp l k ≡ Less → IsBefore l (each_member_normalized g ms)
    → IsBefore l (each_member_normalized g (extended ms k d))
before_last l g no_members k d e h = (e, tt)
before_last l g (member m c ms) k d e h = (h.0, before_last l g ms k d e h.1)

readable_more : (g : Data → Data) (ms : Members) (k : List ℕ) (d : Data) → AfterAll k ms → IsReadable (g d) → IsReadable (object (each_member_normalized g ms))
    → IsReadable (object (each_member_normalized g (extended ms k d)))
readable_more g no_members k d after is h = ((tt, tt), (is, tt))
readable_more g (member l c ms) k d after is h =
    let below : slice_cmp nat_cmp l k ≡ Less = nat_list_cmp_total.antisymm l k ∙ ap ordering_reverse after.0 in
    let rest = readable_more g ms k d after.1 is (h.0.1, h.1.1) in
    ((before_last l g ms k d below h.0.0, rest.0), (h.1.0, rest.1))

-- the members so far are accepted, and their normal forms written, which are readable
abbrev pub MembersSoFar : Shape → Data → List Token → Option (Bor (List ℕ)) → List Token → List Token → Type 0
MembersSoFar s d old last rest now =
    (found : Members) × (out : Members) × (d ≡ object out) × InMembersData rest found out × (each_member_allowed (accepts s) found ≡ true)
    × ((k : List ℕ) → IsAfter k last → AfterAll k found) × (now ≡ old ++ begin_object ∷ open_tokens (normalized s) found)
    × IsReadable (object (each_member_normalized (normalized s) found))

transitive : (k l : List ℕ) (last : Option (Bor (List ℕ))) → slice_cmp nat_cmp k l ≡ Greater → IsAfter l last → IsAfter k last
transitive k l None a b = tt
transitive k l (Some m) a b =
    let back : slice_cmp nat_cmp l k ≡ Less = nat_list_cmp_total.antisymm l k ∙ ap ordering_reverse a in
    let before : slice_cmp nat_cmp m.now l ≡ Less = nat_list_cmp_total.antisymm m.now l ∙ ap ordering_reverse b in
    nat_list_cmp_total.antisymm k m.now ∙ ap ordering_reverse (nat_list_cmp_total.trans m.now l k before back)

module _ (s : Shape) (d : Data) (old : List Token) where
  pub members_begin : (rest now : List Token) → (out : Members) × (d ≡ object out) × InMembersData rest no_members out → now ≡ old ++ begin_object ∷ [] → MembersSoFar s d old None rest now
  members_begin rest now (out, is, left) wrote = (no_members, out, is, left, refl, (λ k h. tt), wrote, (tt, tt))

  pub members_step : (last : Option (Bor (List ℕ))) (name : Bor (List ℕ)) (rest now left mid next ts : List Token) → NextMemberData rest (Some (name.now, ts)) left → IsAfter name.now last
      → mid ≡ now ++ key name.now ∷ [] → WritesNormal s ts mid next → MembersSoFar s d old last rest now → MembersSoFar s d old (Some name) left next
  members_step last name rest now left mid next ts step after named wrote (found, out, is, at, accepted, order, whole, readable) =
      let p = step found out at in
      let w = wrote p.0 p.1 in
      let k = name.now in
      let g = normalized s in
      let t = json_tokens (outline (g p.0)) in
      let here = put_last k p.0 found (order k after) in (
        extended found k p.0,
        out,
        is,
        subst (λ ms. InMembersData left ms out) here p.2,
        allowed_more (accepts s) found k p.0 accepted w.0,
        (λ l h. after_last l k p.0 found h (order l (transitive l k last h after))),
        w.1.0 ∙ ap (λ x. x ++ t) (named ∙ ap (λ x. x ++ key k ∷ []) whole)
            ∙ append_assoc (old ++ begin_object ∷ open_tokens g found) (key k ∷ []) t
            ∙ append_assoc old (begin_object ∷ open_tokens g found) (key k ∷ t)
            ∙ ap (λ x. old ++ begin_object ∷ x) (sym (open_more g found k p.0)),
        readable_more g found k p.0 (order k after) w.1.1 readable,
      )

  pub members_end : (last : Option (Bor (List ℕ))) (rest now left next : List Token) → NextMemberData rest None left → next ≡ now ++ end_object ∷ [] → MembersSoFar s d old last rest now
      → (accepts (map s) d ≡ true) × WritesTree (normalized (map s) d) old next
  members_end last rest now left next step wrote (found, out, is, at, accepted, order, whole, readable) =
      let over : found ≡ out = step found out at in
      let all : d ≡ object found = is ∙ ap object (sym over) in
      let g = normalized s in
      let written = wrote ∙ ap (λ x. x ++ end_object ∷ []) whole ∙ append_assoc old (begin_object ∷ open_tokens g found) (end_object ∷ []) ∙ ap (λ x. old ++ begin_object ∷ x) (open_closed g found) in
      subst (λ x. (accepts (map s) x ≡ true) × WritesTree (normalized (map s) x) old next) (sym all) (accepted, (written, readable))
