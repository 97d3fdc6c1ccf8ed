-- What is reported is what records do not list.
use Rattle.std.proofs.Common.{◌≡◌, inl, inr, ℕ, zero, suc, ◌+◌, List, [], ◌∷◌, ◌++◌, Bool, true, false, Option, Some, None, map, refl, sym, ◌∙◌, subst, true≢false, arith}
use Rattle.std.specs.Prelude.{◌↔◌, ◌⊎◌}
use Rattle.std.specs.List.{Contains}
use Rattle.std.proofs.lemmas.List.Elements.{Contains-append_left, Contains-append_right, Contains-append_cases, Contains-push_cases}
use Rattle.serde_json.specs.Data.{Data, Items, no_items, item, Members, no_members, member}
use Rattle.serde_json.specs.Find.{as_array, as_object, get, get_item}
use Rattle.oci_base.specs.Names.{is_listed}
use Rattle.oci_model.specs.Shape as shape
use Rattle.oci_model.specs.Shape.{Shape, text, truth, whole, named, open_name, digest_text, cpu_text, cap_set, list, key_set, detail, free_map, rows, Rows, no_rows, row, names}
use Rattle.oci_schema.specs.Leads.{Have}
use Rattle.oci_schema.specs.Places.{under_name, under_index}
use Rattle.oci_schema.proofs.EachPart.{nothing_in, no_some, one_in, in_both, back_members, Claim, Tells, InItems, InObject, items_in, members_in, part_in}
use Rattle.oci_schema.specs.Unknown.{Report, IsRecord, IsRecordIn, IsUnder, IsUnknown, unless_listed, unlisted, unlisted_in, of_named, unknown, unknown_in}
use Rattle.oci_schema.specs.Reported.{reported}
use Rattle.oci_schema.specs.declared.unknown.UnknownMember.{UnknownMember}

-- ---- members of one object

abbrev Unlisted : List (List ℕ) → List ℕ → Members → Report → Type 0
Unlisted ns at ms x = (name : List ℕ) × (c : Data) × Have ms name c × (is_listed ns name ≡ false) × ((under_name at name, name, ns) ≡ x)

unless_in : (ns : List (List ℕ)) (at k : List ℕ) (b : Bool) → is_listed ns k ≡ b → (x : Report) → Contains (unless_listed ns at k) x ↔ ((is_listed ns k ≡ false) × ((under_name at k, k, ns) ≡ x))
unless_in ns at k true e x = ((λ h. nothing_in x (subst (λ (xs : List Report). Contains xs x) (none e) h)), (λ h. absurd (true≢false (sym e ∙ h.0))))
  where
    none : is_listed ns k ≡ true → unless_listed ns at k ≡ []
    none e = rw e refl
unless_in ns at k false e x = ((λ h. (e, one_in (under_name at k, k, ns) x (subst (λ (xs : List Report). Contains xs x) (one e) h))), (λ h. subst (λ (xs : List Report). Contains xs x) (sym (one e)) (first h.1)))
  where
    one : is_listed ns k ≡ false → unless_listed ns at k ≡ (under_name at k, k, ns) ∷ []
    one e = rw e refl

    first : (under_name at k, k, ns) ≡ x → Contains ((under_name at k, k, ns) ∷ []) x
    first s = (zero, omega arith, s)

unlisted_is : (ns : List (List ℕ)) (at : List ℕ) (ms : Members) (x : Report) → Contains (unlisted ns at ms) x ↔ Unlisted ns at ms x
unlisted_is ns at no_members x = ((λ h. nothing_in x h), (λ h. let (name, c, have, free, shown) = h in absurd have))
unlisted_is ns at (member k d ms) x =
    let both = in_both (unless_listed ns at k) (unlisted ns at ms) x ((is_listed ns k ≡ false) × ((under_name at k, k, ns) ≡ x)) (Unlisted ns at ms x) (unless_in ns at k (is_listed ns k) refl x) (unlisted_is ns at ms x) in
    ((λ h. joined (both.0 h)), (λ h. both.1 (split h)))
  where
    joined : ((is_listed ns k ≡ false) × ((under_name at k, k, ns) ≡ x)) ⊎ Unlisted ns at ms x → Unlisted ns at (member k d ms) x
    joined (inl h) = (k, d, inl (refl, refl), h.0, h.1)
    joined (inr h) = let (name, c, have, free, shown) = h in (name, c, inr have, free, shown)

    split : Unlisted ns at (member k d ms) x → ((is_listed ns k ≡ false) × ((under_name at k, k, ns) ≡ x)) ⊎ Unlisted ns at ms x
    split (name, c, inl same, free, shown) = inl (subst (λ n. (is_listed ns n ≡ false) × ((under_name at n, n, ns) ≡ x)) same.0 (free, shown))
    split (name, c, inr have, free, shown) = inr (name, c, have, free, shown)

-- ---- schemas

-- a member of a record's object in the value at this pointer that the record does not list
abbrev In : Shape → (Claim Report)
In s at d x = (rs : Rows) × (shown : List ℕ) × (part : Data) × IsRecord s at d rs shown part × ((ms : Members) × (as_object part ≡ Some ms) × Unlisted (names rs) shown ms x)

abbrev InRows : Rows → (Claim Report)
InRows qs at d x = (rs : Rows) × (shown : List ℕ) × (part : Data) × IsRecordIn qs at d rs shown part × ((ms : Members) × (as_object part ≡ Some ms) × Unlisted (names rs) shown ms x)

abbrev InNamed : Shape → Option (List ℕ) → (Claim Report)
InNamed s name at d x = (rs : Rows) × (shown : List ℕ) × (part : Data) × IsUnder (IsRecord s) name at d rs shown part × ((ms : Members) × (as_object part ≡ Some ms) × Unlisted (names rs) shown ms x)

none_is : (s : Shape) (at : List ℕ) (d : Data) (x : Report) → ((rs : Rows) (shown : List ℕ) (part : Data) → IsRecord s at d rs shown part → ⊥) → Contains {X = Report} [] x ↔ In s at d x
none_is s at d x nowhere = ((λ h. nothing_in x h), (λ h. let (rs, shown, part, is, so) = h in absurd (nowhere rs shown part is)))

list_is : (s : Shape) → Tells (unknown s) (In s) → Tells (unknown (list s)) (In (list s))
list_is s below at d x =
    let all = items_in (unknown s) (In s) below at (as_array d) x in
    ((λ h. there (all.0 h)), (λ h. all.1 (back h)))
  where
    there : InItems (In s) at (as_array d) x → In (list s) at d x
    there h =
        let (ds, e, each) = h in
        let (j, c, found, inner) = each in
        let (rs, shown, part, is, so) = inner in
        let z : 0 + j ≡ j = omega arith in
        (rs, shown, part, (j, c, (ds, e, found), subst (λ n. IsRecord s (under_index at n) c rs shown part) z is), so)

    back : In (list s) at d x → InItems (In s) at (as_array d) x
    back h =
        let (rs, shown, part, way, so) = h in
        let (j, c, has, is) = way in
        let (ds, e, found) = has in
        let z : j ≡ 0 + j = omega arith in
        (ds, e, (j, c, found, (rs, shown, part, subst (λ n. IsRecord s (under_index at n) c rs shown part) z is, so)))

map_is : (s : Shape) → Tells (unknown s) (In s) → Tells (unknown (shape.map s)) (In (shape.map s))
map_is s below at d x =
    let all = members_in (unknown s) (In s) below at (as_object d) x in
    ((λ h. there (all.0 h)), (λ h. all.1 (back h)))
  where
    there : InObject (In s) at (as_object d) x → In (shape.map s) at d x
    there h =
        let (ms, e, each) = h in
        let (name, c, have, inner) = each in
        let (rs, shown, part, is, so) = inner in
        (rs, shown, part, (name, c, (ms, e, have), is), so)

    back : In (shape.map s) at d x → InObject (In s) at (as_object d) x
    back h =
        let (rs, shown, part, way, so) = h in
        let (name, c, has, is) = way in
        let (ms, e, have) = has in
        (ms, e, (name, c, have, (rs, shown, part, is, so)))

named_is : (s : Shape) → Tells (unknown s) (In s) → (name : Option (List ℕ)) → Tells (of_named (unknown s) name) (InNamed s name)
named_is s below None at d x = ((λ h. nothing_in x h), (λ h. let (rs, shown, part, is, so) = h in absurd is))
named_is s below (Some name) at d x =
    let all = part_in (unknown s) (In s) below (under_name at name) (get name d) x in
    ((λ h. there (all.0 h)), (λ h. all.1 (back h)))
  where
    there : (c : Data) × (get name d ≡ Some c) × In s (under_name at name) c x → InNamed s (Some name) at d x
    there h = let (c, e, inner) = h in let (rs, shown, part, is, so) = inner in (rs, shown, part, (c, e, is), so)

    back : InNamed s (Some name) at d x → (c : Data) × (get name d ≡ Some c) × In s (under_name at name) c x
    back h = let (rs, shown, part, way, so) = h in let (c, e, is) = way in (c, e, (rs, shown, part, is, so))

-- members of the object itself
own_is : (rs : Rows) (at : List ℕ) (d : Data) (o : Option Members) → as_object d ≡ o → (x : Report) → Contains (unlisted_in (names rs) at o) x ↔ ((ms : Members) × (as_object d ≡ Some ms) × Unlisted (names rs) at ms x)
own_is rs at d None e x = ((λ h. nothing_in x h), (λ h. let (ms, s, so) = h in no_some ms (sym e ∙ s)))
own_is rs at d (Some ms) e x = ((λ h. (ms, e, (unlisted_is (names rs) at ms x).0 h)), (λ h. back h))
  where
    back : (ns : Members) × (as_object d ≡ Some ns) × Unlisted (names rs) at ns x → Contains (unlisted (names rs) at ms) x
    back h =
        let (ns, s, so) = h in
        let same : ns ≡ ms = back_members ns ms (sym e ∙ s) in
        (unlisted_is (names rs) at ms x).1 (subst (λ (z : Members). Unlisted (names rs) at z x) same so)

rows_is : (rs : Rows) → Tells (unknown_in rs) (InRows rs) → Tells (unknown (rows rs)) (In (rows rs))
rows_is rs below at d x =
    let both =
    in_both (unlisted_in (names rs) at (as_object d)) (unknown_in rs at d) x ((ms : Members) × (as_object d ≡ Some ms) × Unlisted (names rs) at ms x) (InRows rs at d x) (own_is rs at d (as_object d) refl x) (below at d x) in
    ((λ h. joined (both.0 h)), (λ h. both.1 (split h)))
  where
    joined : ((ms : Members) × (as_object d ≡ Some ms) × Unlisted (names rs) at ms x) ⊎ InRows rs at d x → In (rows rs) at d x
    joined (inl h) = (rs, at, d, inl (refl, refl, refl), h)
    joined (inr h) = let (qs, shown, part, is, so) = h in (qs, shown, part, inr is, so)

    split : In (rows rs) at d x → ((ms : Members) × (as_object d ≡ Some ms) × Unlisted (names rs) at ms x) ⊎ InRows rs at d x
    split (qs, shown, part, inl same, so) =
        inl (subst (λ (z : Rows). (ms : Members) × (as_object d ≡ Some ms) × Unlisted (names z) at ms x) same.0
        (subst (λ (a : List ℕ). (ms : Members) × (as_object d ≡ Some ms) × Unlisted (names qs) a ms x) same.1
        (subst (λ (c : Data). (ms : Members) × (as_object c ≡ Some ms) × Unlisted (names qs) shown ms x) same.2 so)))
    split (qs, shown, part, inr is, so) = inr (qs, shown, part, is, so)

row_is : (name : List ℕ) (alias : Option (List ℕ)) (p : shape.Presence) (s : Shape) (rs : Rows) → Tells (unknown s) (In s) → Tells (unknown_in rs) (InRows rs)
    → Tells (unknown_in (row name alias p s rs)) (InRows (row name alias p s rs))
row_is name alias p s rs one rest at d x =
    let later = in_both (of_named (unknown s) alias at d) (unknown_in rs at d) x (InNamed s alias at d x) (InRows rs at d x) (named_is s one alias at d x) (rest at d x) in
    let both =
    in_both (of_named (unknown s) (Some name) at d) (of_named (unknown s) alias at d ++ unknown_in rs at d) x (InNamed s (Some name) at d x) (InNamed s alias at d x ⊎ InRows rs at d x) (named_is s one (Some name) at d x) later in
    ((λ h. joined (both.0 h)), (λ h. both.1 (split h)))
  where
    joined : InNamed s (Some name) at d x ⊎ (InNamed s alias at d x ⊎ InRows rs at d x) → InRows (row name alias p s rs) at d x
    joined (inl h) = let (qs, shown, part, is, so) = h in (qs, shown, part, inl is, so)
    joined (inr (inl h)) = let (qs, shown, part, is, so) = h in (qs, shown, part, inr (inl is), so)
    joined (inr (inr h)) = let (qs, shown, part, is, so) = h in (qs, shown, part, inr (inr is), so)

    split : InRows (row name alias p s rs) at d x → InNamed s (Some name) at d x ⊎ (InNamed s alias at d x ⊎ InRows rs at d x)
    split (qs, shown, part, inl is, so) = inl (qs, shown, part, is, so)
    split (qs, shown, part, inr (inl is), so) = inr (inl (qs, shown, part, is, so))
    split (qs, shown, part, inr (inr is), so) = inr (inr (qs, shown, part, is, so))

mutual
  shape_is : (s : Shape) → Tells (unknown s) (In s)
  shape_is text at d x = none_is text at d x (λ rs shown part is. is)
  shape_is truth at d x = none_is truth at d x (λ rs shown part is. is)
  shape_is (whole low high) at d x = none_is (whole low high) at d x (λ rs shown part is. is)
  shape_is (named table) at d x = none_is (named table) at d x (λ rs shown part is. is)
  shape_is (open_name table) at d x = none_is (open_name table) at d x (λ rs shown part is. is)
  shape_is digest_text at d x = none_is digest_text at d x (λ rs shown part is. is)
  shape_is cpu_text at d x = none_is cpu_text at d x (λ rs shown part is. is)
  shape_is (cap_set table) at d x = none_is (cap_set table) at d x (λ rs shown part is. is)
  shape_is (list s) at d x = list_is s (λ a c y. shape_is s a c y) at d x
  shape_is (shape.map s) at d x = map_is s (λ a c y. shape_is s a c y) at d x
  shape_is key_set at d x = none_is key_set at d x (λ rs shown part is. is)
  shape_is detail at d x = none_is detail at d x (λ rs shown part is. is)
  shape_is free_map at d x = none_is free_map at d x (λ rs shown part is. is)
  shape_is (rows rs) at d x = rows_is rs (λ a c y. rows_are rs a c y) at d x

  rows_are : (rs : Rows) → Tells (unknown_in rs) (InRows rs)
  rows_are no_rows at d x = ((λ h. nothing_in x h), (λ h. let (qs, shown, part, is, so) = h in absurd is))
  rows_are (row name alias p s rs) at d x = row_is name alias p s rs (λ a c y. shape_is s a c y) (λ a c y. rows_are rs a c y) at d x

put_together : (y : Report) (a : List ℕ) (n : List (List ℕ)) → y.0 ≡ a → y.2 ≡ n → ◌≡◌ {A = Report} (a, y.1, n) y
put_together (p, q, r) a n e f = rw (← e, ← f) refl

-- by the report's own parts
told : (s : Shape) (d : Data) (x : Report) → In s [] d x ↔ IsUnknown s d x
told s d x = ((λ h. there h), (λ h. back h))
  where
    there : In s [] d x → IsUnknown s d x
    there h =
        let (rs, shown, part, is, so) = h in
        let (ms, e, inner) = so in
        let (name, c, have, free, same) = inner in
        subst (λ (y : Report). IsUnknown s d y) same (rs, shown, part, c, is, (ms, e, have), free, refl, refl)

    back : IsUnknown s d x → In s [] d x
    back h =
        let (rs, shown, part, c, is, has, free, at, ns) = h in
        let (ms, e, have) = has in
        (rs, shown, part, is, (ms, e, (x.1, c, have, free, put_together x (under_name shown x.1) (names rs) at ns)))

pub exactly : (s : Shape) (d : Data) (v : List UnknownMember) → map reported v ≡ unknown s [] d → (x : Report) → Contains (map reported v) x ↔ IsUnknown s d x
exactly s d v e x =
    let one = shape_is s [] d x in
    let same = told s d x in
    subst (λ (xs : List Report). Contains xs x ↔ IsUnknown s d x) (sym e) ((λ h. same.0 (one.0 h)), (λ h. one.1 (same.1 h)))
