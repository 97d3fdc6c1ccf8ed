-- The members of an object: putting one in its place, and writing one.
use Rattle.std.proofs.Common.{◌≡◌, ℕ, zero, suc, ◌+◌, ◌<◌, ◌≤◌, List, [], ◌∷◌, length, drop, slice_index_or, true, false, bytes_eq, Option, Some, None, is_some, refl, sym, ap, ◌∙◌, subst, arith, nat_cmp, Less, Greater}
use Rattle.std.specs.Prelude.{◌≢◌, slice_set, IfSome, MatchOption, ⊤}
use Rattle.std.specs.Option.{option_copied}
use Rattle.std.specs.Borrow.{Bor}
use Rattle.std.specs.List.{insert}
use Rattle.std.specs.Ordering.{match_ordering, ordering_reverse}
use Rattle.std.specs.Cmp.Lexicographic.{slice_cmp}
use Rattle.std.proofs.lemmas.Cmp.{nat_list_cmp_total}
use Rattle.std.proofs.lemmas.Slice.Eq.{bytes_eq-Decides}
use Rattle.json.specs.Token.{Token}
use Rattle.serde_json.specs.Data.{Data, Members, no_members, member, put}
use Rattle.oci_model.specs.Shape.{Shape}
use Rattle.oci_json_tape.specs.Elements.{FindsData}
use Rattle.oci_schema.specs.declared.record.Member.{Member}
use Rattle.oci_schema.specs.Fields.{Field, FieldMeans, EachField, FieldIsAccepted, AreAccepted}
use Rattle.oci_schema.specs.Objects.{IsLeast, AreInOrder, Finds, IsAt, IsPlaceOf, with_field, fields_in}
use Rattle.oci_schema.specs.declared.bytes.object.Slot.{Slot}

-- a member that is not written yet
abbrev pub unwritten : Bor (List ℕ) → Option (List Token) → Slot
unwritten name value = record { name = name; value = value; member = None }

-- the member s, once this is written for it
abbrev pub written : Slot → Bor Member → Option (List Token) → Slot
written s m value = record { name = s.name; value = value; member = Some m }

-- ---- places

pub at_within : (s : Slot) (ss : List Slot) (at : ℕ) → IsAt at s ss → at < length ss
at_within s [] at h = absurd h
at_within s (x ∷ xs) zero h = omega arith
at_within s (x ∷ xs) (suc at) h = let below = at_within s xs at h in omega arith

pub at_index : (s w : Slot) (ss : List Slot) (at : ℕ) → IsAt at s ss → slice_index_or ss at w ≡ s
at_index s w [] at h = absurd h
at_index s w (x ∷ xs) zero h = sym h
at_index s w (x ∷ xs) (suc at) h = at_index s w xs at h

pub at_set : (s x : Slot) (ss : List Slot) (at : ℕ) → IsAt at s ss → IsAt at x (slice_set ss at x)
at_set s x [] at h = absurd h
at_set s x (y ∷ ys) zero h = refl
at_set s x (y ∷ ys) (suc at) h = at_set s x ys at h

pub set_twice : (a b : Slot) (ss : List Slot) (at : ℕ) → slice_set (slice_set ss at a) at b ≡ slice_set ss at b
set_twice a b [] at = refl
set_twice a b (x ∷ xs) zero = refl
set_twice a b (x ∷ xs) (suc at) = ap (λ z. x ∷ z) (set_twice a b xs at)

pub at_cut : (s : Slot) (rest ss : List Slot) (at : ℕ) → drop at ss ≡ s ∷ rest → IsAt at s ss
at_cut s rest [] zero h = cc
at_cut s rest [] (suc at) h = cc
at_cut s rest (x ∷ xs) zero h = cc
at_cut s rest (x ∷ xs) (suc at) h = at_cut s rest xs at h

pub at_inserted : (s : Slot) (name : List ℕ) (ss : List Slot) (at : ℕ) → IsPlaceOf name ss at → IsAt at s (insert ss at s)
at_inserted s name [] zero p = refl
at_inserted s name [] (suc at) p = absurd (omega arith)
at_inserted s name (x ∷ xs) zero p = refl
at_inserted s name (x ∷ xs) (suc at) p = at_inserted s name xs at p.1

pub place_within : (name : List ℕ) (ss : List Slot) (at : ℕ) → IsPlaceOf name ss at → at ≤ length ss
place_within name [] at h = omega arith
place_within name (s ∷ ss) zero h = omega arith
place_within name (s ∷ ss) (suc at) h = let less = place_within name ss at h.1 in omega arith

-- one name more is before the place
pub place_after : (name : List ℕ) (all rest : List Slot) (x : Slot) (i : ℕ) → slice_cmp nat_cmp name x.name.now ≡ Greater
    → ((j : ℕ) → IsPlaceOf name (x ∷ rest) j → IsPlaceOf name all (i + j)) → (j : ℕ) → IsPlaceOf name rest j → IsPlaceOf name all ((i + 1) + j)
place_after name all rest x i greater before j h =
    let next : i + suc j ≡ (i + 1) + j = omega arith in
    subst (IsPlaceOf name all) next (before (suc j) (greater, h))

-- ---- names and values

pub same_name : (k l : List ℕ) → bytes_eq k l ≡ true → k ≡ l
same_name k l h = (bytes_eq-Decides k l).0 h

pub other_name : (k l : List ℕ) → bytes_eq k l ≡ false → k ≢ l
other_name k l h e = let same = (bytes_eq-Decides k l).1 e in cc

pub if_copied : {A : Type 0} (r : Option (Bor A)) (o : Option A) (P : Type 0) → P → option_copied r ≡ o → IfSome r (λ x. P × (o ≡ Some x.now))
if_copied None o P p e = tt
if_copied (Some x) o P p e = (p, sym e)

pub none_of : {A : Type 0} (o : Option A) (P : Type 0) (Q : A → Type 0) → is_some o ≡ false → MatchOption o P Q → P
none_of None P Q is h = h
none_of (Some x) P Q is h = cc

-- ---- order

less_of_greater : (k l : List ℕ) → slice_cmp nat_cmp k l ≡ Greater → slice_cmp nat_cmp l k ≡ Less
less_of_greater k l h = nat_list_cmp_total.antisymm l k ∙ ap ordering_reverse h

greater_of_less : (k l : List ℕ) → slice_cmp nat_cmp k l ≡ Less → slice_cmp nat_cmp l k ≡ Greater
greater_of_less k l h = nat_list_cmp_total.antisymm l k ∙ ap ordering_reverse h

apart : (k l : List ℕ) → slice_cmp nat_cmp k l ≡ Greater → k ≢ l
apart k l h e =
    let back = less_of_greater k l h in
    let same = subst (λ x. slice_cmp nat_cmp x k ≡ Less) (sym e) back in
    let other = subst (λ x. slice_cmp nat_cmp k x ≡ Greater) (sym e) h in
    cc

before_least : (k l : List ℕ) (ss : List Slot) → slice_cmp nat_cmp k l ≡ Less → IsLeast l ss → IsLeast k ss
before_least k l [] e h = tt
before_least k l (x ∷ xs) e h = (nat_list_cmp_total.trans k l x.name.now e h.0, before_least k l xs e h.1)

least_at : (k : List ℕ) (s : Slot) (ss : List Slot) (at : ℕ) → IsAt at s ss → IsLeast k ss → slice_cmp nat_cmp k s.name.now ≡ Less
least_at k s [] at is h = absurd is
least_at k s (x ∷ xs) zero is h = ap (λ z. slice_cmp nat_cmp k z.name.now) is ∙ h.0
least_at k s (x ∷ xs) (suc at) is h = least_at k s xs at is h.1

least_inserted : (k : List ℕ) (s : Slot) (ss : List Slot) (at : ℕ) → slice_cmp nat_cmp k s.name.now ≡ Less → IsLeast k ss → IsLeast k (insert ss at s)
least_inserted k s [] zero e h = (e, tt)
least_inserted k s [] (suc at) e h = (e, tt)
least_inserted k s (x ∷ xs) zero e h = (e, h)
least_inserted k s (x ∷ xs) (suc at) e h = (h.0, least_inserted k s xs at e h.1)

pub inserted_in_order : (name : Bor (List ℕ)) (value : Option (List Token)) (ss : List Slot) (at : ℕ) → IsPlaceOf name.now ss at → AreInOrder ss
    → AreInOrder (insert ss at (unwritten name value))
inserted_in_order name value [] zero p h = (tt, tt, tt)
inserted_in_order name value [] (suc at) p h = absurd (omega arith)
inserted_in_order name value (x ∷ xs) zero p h = (tt, (p, before_least name.now x.name.now xs p h.1), h)
inserted_in_order name value (x ∷ xs) (suc at) p h = (
  h.0,
  least_inserted x.name.now (unwritten name value) xs at (less_of_greater name.now x.name.now p.0) h.1,
  inserted_in_order name value xs at p.1 h.2,
)

-- ---- what is found

-- p is what is found once the member is put in, and o what was found before
pub inserted_finds : (q : List ℕ) (o p : Option Data) (name : Bor (List ℕ)) (value : Option (List Token)) → (q ≢ name.now → p ≡ o) → (name.now ≡ q → FindsData value p)
    → (ss : List Slot) (at : ℕ) → IsPlaceOf name.now ss at → Finds q ss o → Finds q (insert ss at (unwritten name value)) p
inserted_finds q o p name value other same [] zero place h = (λ e is. same e, λ n. other (λ e. n (sym e)) ∙ h)
inserted_finds q o p name value other same [] (suc at) place h = absurd (omega arith)
inserted_finds q o p name value other same (x ∷ xs) zero place h = (λ e is. same e, λ n. subst (Finds q (x ∷ xs)) (sym (other (λ e. n (sym e)))) h)
inserted_finds q o p name value other same (x ∷ xs) (suc at) place h = (
  λ e is. subst (FindsData x.value) (sym (other (λ k. apart name.now x.name.now place.0 (sym k ∙ sym e)))) (h.0 e is),
  λ n. inserted_finds q o p name value other same xs at place.1 (h.1 n),
)

pub inserted_fields : (name : Bor (List ℕ)) (value : Option (List Token)) (ss : List Slot) (at : ℕ) → fields_in (insert ss at (unwritten name value)) ≡ fields_in ss
inserted_fields name value [] zero = refl
inserted_fields name value [] (suc at) = refl
inserted_fields name value (x ∷ xs) zero = refl
inserted_fields name value (x ∷ xs) (suc at) = ap (with_field x.member x.value) (inserted_fields name value xs at)

-- ---- writing one

module _ (s : Slot) (m : Bor Member) (value : Option (List Token)) (named : s.name.now ≡ m.now.name.now) where
  abbrev new : Slot
  new = written s m value

  abbrev e : Field
  e = record { member = m; value = value }

  least_written : (k : List ℕ) (ss : List Slot) (at : ℕ) → IsAt at s ss → IsLeast k ss → IsLeast k (slice_set ss at new)
  least_written k [] at is h = absurd is
  least_written k (x ∷ xs) zero is h = (ap (λ z. slice_cmp nat_cmp k z.name.now) is ∙ h.0, h.1)
  least_written k (x ∷ xs) (suc at) is h = (h.0, least_written k xs at is h.1)

  pub written_in_order : (ss : List Slot) (at : ℕ) → IsAt at s ss → AreInOrder ss → AreInOrder (slice_set ss at new)
  written_in_order [] at is h = absurd is
  written_in_order (x ∷ xs) zero is h = (sym named, subst (λ z. IsLeast z.name.now xs) (sym is) h.1, h.2)
  written_in_order (x ∷ xs) (suc at) is h = (h.0, least_written x.name.now xs at is h.1, written_in_order xs at is h.2)

  pub written_finds : (q : List ℕ) (o : Option Data) (ss : List Slot) (at : ℕ) → IsAt at s ss → Finds q ss o → Finds q (slice_set ss at new) o
  written_finds q o [] at is h = absurd is
  written_finds q o (x ∷ xs) zero is h = (λ k none. cc, λ n. h.1 (λ k. n (ap (λ z. z.name.now) is ∙ k)))
  written_finds q o (x ∷ xs) (suc at) is h = (h.0, λ n. written_finds q o xs at is (h.1 n))

  module _ (f : ℕ → Shape) where
    -- a name before all is put in front
    put_first : (n : Data) (ss : List Slot) (ms : Members) → IsLeast m.now.name.now ss → AreInOrder ss → EachField f (fields_in ss) ms
        → put m.now.name.now n ms ≡ member m.now.name.now n ms
    put_first n [] no_members least order h = refl
    put_first n [] (member k d ms) least order h = absurd h
    put_first n (x ∷ xs) ms least order h = here (λ ls. put_first n xs ls least.1 order.2) x.member ms order.0 h
      where
        here : ((ls : Members) → EachField f (fields_in xs) ls → put m.now.name.now n ls ≡ member m.now.name.now n ls) → (o : Option (Bor Member)) (ls : Members)
            → MatchOption o ⊤ (λ z. z.now.name.now ≡ x.name.now) → EachField f (with_field o x.value (fields_in xs)) ls → put m.now.name.now n ls ≡ member m.now.name.now n ls
        here later None ls own each = later ls each
        here later (Some z) no_members own each = absurd each
        here later (Some z) (member k d ls) own each =
            let name = m.now.name.now in
            let before : slice_cmp nat_cmp name k ≡ Less = ap (slice_cmp nat_cmp name) (sym each.0 ∙ own) ∙ least.0 in
            ap (λ o. match_ordering o (member name n (member k d ls)) (member k n ls) (member k d (put name n ls))) before

    pub written_fields : (n : Data) → s.member ≡ None → FieldMeans f e n → (ss : List Slot) (at : ℕ) (ms : Members) → IsAt at s ss → AreInOrder ss → EachField f (fields_in ss) ms
        → EachField f (fields_in (slice_set ss at new)) (put m.now.name.now n ms)
    written_fields n none means [] at ms is order h = absurd is
    written_fields n none means (x ∷ xs) zero ms is order h =
        let free : x.member ≡ None = ap (λ z. z.member) (sym is) ∙ none in
        let each = subst (λ o. EachField f (with_field o x.value (fields_in xs)) ms) free h in
        let least = subst (λ k. IsLeast k xs) (ap (λ z. z.name.now) (sym is) ∙ named) order.1 in
        subst (EachField f (e ∷ fields_in xs)) (sym (put_first n xs ms least order.2 each)) (refl, means, each)
    written_fields n none means (x ∷ xs) (suc at) ms is order h = here (λ ls. written_fields n none means xs at ls is order.2) x.member ms order.0 h
      where
        here : ((ls : Members) → EachField f (fields_in xs) ls → EachField f (fields_in (slice_set xs at new)) (put m.now.name.now n ls)) → (o : Option (Bor Member)) (ls : Members)
            → MatchOption o ⊤ (λ z. z.now.name.now ≡ x.name.now) → EachField f (with_field o x.value (fields_in xs)) ls
            → EachField f (with_field o x.value (fields_in (slice_set xs at new))) (put m.now.name.now n ls)
        here later None ls own each = later ls each
        here later (Some z) no_members own each = absurd each
        here later (Some z) (member k d ls) own each =
            let name = m.now.name.now in
            let g : slice_cmp nat_cmp s.name.now x.name.now ≡ Greater = greater_of_less x.name.now s.name.now (least_at x.name.now s xs at is order.1) in
            let after : slice_cmp nat_cmp name k ≡ Greater = ap (slice_cmp nat_cmp name) (sym each.0 ∙ own) ∙ ap (λ y. slice_cmp nat_cmp y x.name.now) (sym named) ∙ g in
            subst (λ o. EachField f (record { member = z; value = x.value } ∷ fields_in (slice_set xs at new)) (match_ordering o (member name n (member k d ls)) (member k n ls) (member k d (put name n ls))))
            (sym after) (each.0, each.1, later ls each.2)

    pub written_accepted : s.member ≡ None → (ss : List Slot) (at : ℕ) → IsAt at s ss → AreAccepted f (fields_in (slice_set ss at new)) → AreAccepted f (fields_in ss) × FieldIsAccepted f e
    written_accepted none [] at is h = absurd is
    written_accepted none (x ∷ xs) zero is h =
        let free : x.member ≡ None = ap (λ z. z.member) (sym is) ∙ none in
        (subst (λ o. AreAccepted f (with_field o x.value (fields_in xs))) (sym free) h.1, h.0)
    written_accepted none (x ∷ xs) (suc at) is h = here (written_accepted none xs at is) x.member h
      where
        here : (AreAccepted f (fields_in (slice_set xs at new)) → AreAccepted f (fields_in xs) × FieldIsAccepted f e) → (o : Option (Bor Member))
            → AreAccepted f (with_field o x.value (fields_in (slice_set xs at new))) → AreAccepted f (with_field o x.value (fields_in xs)) × FieldIsAccepted f e
        here later None all = later all
        here later (Some z) all = let rest = later all.1 in ((all.0, rest.0), rest.1)
