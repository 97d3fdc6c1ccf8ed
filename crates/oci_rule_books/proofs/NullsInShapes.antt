-- What a document of a shape holds: parts of its parts' shapes, and null only where a record or what is free is.
use Rattle.std.proofs.Common.{◌≡◌, ℕ, zero, suc, List, Bool, true, false, ◌||◌, bytes_eq, nat_cmp, Ordering, Less, Equal, Greater, Option, Some, None, option_and_then, cond, refl, sym, ap, ◌∙◌, subst, inl, inr, true≢false}
use Rattle.std.specs.Prelude.{⊤}
use Rattle.std.specs.Cmp.Lexicographic.{slice_cmp}
use Rattle.std.specs.Ordering.{match_ordering}
use Rattle.std.proofs.lemmas.Slice.Eq.{bytes_eq-Decides}
use Rattle.serde_json.specs.Data.{Data, null, boolean, number, string, array, object, Items, no_items, item, Members, no_members, member}
use Rattle.serde_json.specs.Find.{as_bool, as_str, as_array, as_object, get, get_item, get_member}
use Rattle.oci_model.specs.Means.{as_whole, unless_null, AreCapabilities, AreObjects, EachMeans, EachEntryMeans, IsThere, IsThereOr, MeansMember, get_second, MeansEither, Means, MeansRows}
use Rattle.oci_model.specs.Plain as plain
use Rattle.oci_model.specs.Plain.{Plain, Plains, no_plains, Entries, no_entries, entry, Slot, empty, filled, Slots, no_slots, slot}
use Rattle.oci_model.specs.Shape as shape
use Rattle.oci_model.specs.Shape.{Presence, required, defaulted, optional, nullable, unless_empty, Shape, Rows, no_rows, row}
use Rattle.oci_rules.specs.Nulls.{HasNull}
use Rattle.oci_rules.specs.Parts.{present}
use Rattle.oci_rule_books.specs.Nulls.{may_hold_null}
use Rattle.oci_rule_books.specs.Stands.{is_second, member_of, under_shape, item_shape, each_shape}
use Rattle.oci_schema.specs.Leads.{Have}

-- of this shape, if there is one
abbrev pub IsOf : Option Shape → Data → Type 0
IsOf None d = ⊤
IsOf (Some s) d = (p : Plain) × Means s d p

-- ---- a member that is no null

shown_was : (o : Option Data) (c : Data) → option_and_then unless_null o ≡ Some c → o ≡ Some c
shown_was None c e = cc
shown_was (Some null) c e = cc
shown_was (Some (boolean b)) c e = e
shown_was (Some (number n)) c e = e
shown_was (Some (string t)) c e = e
shown_was (Some (array ds)) c e = e
shown_was (Some (object ms)) c e = e

there_means : (M : Data → Plain → Type 0) (o : Option Data) (c : Data) (x : Slot) → o ≡ Some c → IsThere M o x → (p : Plain) × M c p
there_means M None c x e m = absurd m
there_means M (Some d) c empty e m = absurd m
there_means M (Some d) c (filled p) e m = let same : d ≡ c = cc in (p, subst (λ z. M z p) same m)

or_means : (otherwise : Slot) (M : Data → Plain → Type 0) (o : Option Data) (c : Data) (x : Slot) → o ≡ Some c → IsThereOr otherwise M o x → (p : Plain) × M c p
or_means otherwise M None c x e m = absurd cc
or_means otherwise M (Some d) c x e m = there_means M (Some d) c x e m

member_means : (presence : Presence) (M : Data → Plain → Type 0) (o : Option Data) (c : Data) (x : Slot) → option_and_then unless_null o ≡ Some c → MeansMember presence M o x → (p : Plain) × M c p
member_means required M o c x e m = there_means M o c x (shown_was o c e) m
member_means (defaulted d) M o c x e m = or_means (filled d) M o c x (shown_was o c e) m
member_means optional M o c x e m = or_means empty M (option_and_then unless_null o) c x e m
member_means nullable M o c x e m = or_means empty M (option_and_then unless_null o) c x e m
member_means unless_empty M o c x e m = or_means empty M (option_and_then unless_null o) c x e m

first_means : (presence : Presence) (M : Data → Plain → Type 0) (a b : Option Data) (c : Data) (x : Slot) → option_and_then unless_null a ≡ Some c → MeansEither presence M a b x → (p : Plain) × M c p
first_means presence M a None c x e m = member_means presence M a c x e m
first_means presence M None (Some d) c x e m = absurd cc
first_means presence M (Some f) (Some d) c x e m = absurd m

second_means : (presence : Presence) (M : Data → Plain → Type 0) (a b : Option Data) (c : Data) (x : Slot) → option_and_then unless_null b ≡ Some c → MeansEither presence M a b x → (p : Plain) × M c p
second_means presence M a None c x e m = absurd cc
second_means presence M None (Some d) c x e m = member_means presence M (Some d) c x e m
second_means presence M (Some f) (Some d) c x e m = absurd m

by_second : (name : List ℕ) (second : Option (List ℕ)) (d c : Data) → is_second name second ≡ true → present name d ≡ Some c → option_and_then unless_null (get_second second d) ≡ Some c
by_second name None d c is e = absurd (true≢false (sym is))
by_second name (Some other) d c is e = let same : name ≡ other = (bytes_eq-Decides name other).0 is in subst (λ n. option_and_then unless_null (get n d) ≡ Some c) same e

of_row : (a b : Bool) (s : Shape) (rest : Option Shape) (c : Data) → (a ≡ true → IsOf (Some s) c) → (b ≡ true → IsOf (Some s) c) → IsOf rest c → IsOf (cond (a || b) (Some s) rest) c
of_row true b s rest c first second later = first refl
of_row false true s rest c first second later = second refl
of_row false false s rest c first second later = later

row_means : (name : List ℕ) (rs : Rows) (xs : Slots) (d c : Data) → MeansRows rs d xs → present name d ≡ Some c → IsOf (member_of name rs) c
row_means name no_rows xs d c m e = tt
row_means name (row n second presence s rs) no_slots d c m e = absurd m
row_means name (row n second presence s rs) (slot x xs) d c m e =
    of_row (bytes_eq name n) (is_second name second) s (member_of name rs) c
    (λ is. first_means presence (Means s) (get n d) (get_second second d) c x (subst (λ q. option_and_then unless_null (get q d) ≡ Some c) ((bytes_eq-Decides name n).0 is) e) m.0)
    (λ is. second_means presence (Means s) (get n d) (get_second second d) c x (by_second name second d c is e) m.0) (row_means name rs xs d c m.1 e)

-- ---- of maps and lists

same_members : (ms ns : Members) (d : Data) → as_object d ≡ Some ms → as_object d ≡ Some ns → ms ≡ ns
same_members ms ns d e f = cc

same_items : (ds es : Items) (d : Data) → as_array d ≡ Some ds → as_array d ≡ Some es → ds ≡ es
same_items ds es d e f = cc

an_object : (d : Data) (ms : Members) → as_object d ≡ Some ms → d ≡ object ms
an_object null ms e = cc
an_object (boolean b) ms e = cc
an_object (number n) ms e = cc
an_object (string t) ms e = cc
an_object (array ds) ms e = cc
an_object (object ns) ms e = cc

entry_means : (M : Data → Plain → Type 0) (ms : Members) (es : Entries) (name : List ℕ) (c : Data) → EachEntryMeans M ms es → Have ms name c → (p : Plain) × M c p
entry_means M no_members es name c m has = absurd has
entry_means M (member k d ms) no_entries name c m has = absurd m
entry_means M (member k d ms) (entry l p es) name c m (inl same) = (p, subst (λ z. M z p) (sym same.1) m.1)
entry_means M (member k d ms) (entry l p es) name c m (inr has) = entry_means M ms es name c m.2 has

each_item_means : (M : Data → Plain → Type 0) (ds : Items) (ps : Plains) (i : ℕ) (c : Data) → EachMeans M ds ps → get_item i ds ≡ Some c → (p : Plain) × M c p
each_item_means M no_items ps i c m e = absurd cc
each_item_means M (item d ds) no_plains i c m e = absurd m
each_item_means M (item d ds) (plain.plain p ps) zero c m e = let same : d ≡ c = cc in (p, subst (λ z. M z p) same m.0)
each_item_means M (item d ds) (plain.plain p ps) (suc i) c m e = each_item_means M ds ps i c m.1 e

a_text : (table : List (List ℕ)) (ds : Items) (i : ℕ) (c : Data) → AreCapabilities table ds → get_item i ds ≡ Some c → (p : Plain) × Means shape.text c p
a_text table no_items i c m e = absurd cc
a_text table (item d ds) zero c m e =
    let (name, listed, is) = m.0 in
    let (t, text, cap) = is in
    let same : d ≡ c = cc in
    (plain.text t, (t, ap as_str (sym same) ∙ text, refl))
a_text table (item d ds) (suc i) c m e = a_text table ds i c m.1 e

none_null : (ms : Members) (name : List ℕ) → AreObjects ms → Have ms name null → ⊥
none_null no_members name m has = has
none_null (member k d ms) name m (inl same) = let (inner, is) = m.0 in let none : as_object null ≡ Some inner = ap as_object same.1 ∙ is in cc
none_null (member k d ms) name m (inr has) = none_null ms name m.1 has

-- ---- null is of no shape

pub null_means : (s : Shape) (p : Plain) → Means s null p → ⊥
null_means shape.text p m = let (t, is, same) = m in cc
null_means shape.truth p m = let (b, is, same) = m in cc
null_means (shape.whole low high) p m = let (z, is, same, above, below) = m in cc
null_means (shape.named table) p m = let (t, is, same, listed) = m in cc
null_means (shape.open_name table) p m = let (t, is, same) = m in cc
null_means shape.digest_text p m = let (t, is, same, digest) = m in cc
null_means shape.cpu_text p m = let (t, is, same, cpus) = m in cc
null_means (shape.cap_set table) p m = let (ds, bs, is, same, caps, set) = m in cc
null_means (shape.list s) p m = let (ds, ps, is, same, each) = m in cc
null_means (shape.map s) p m = let (ms, es, is, same, each) = m in cc
null_means shape.key_set p m = let (ms, is, same, each) = m in cc
null_means shape.detail p m = m.0 refl
null_means shape.free_map p m = let (ms, is, same, floats) = m in cc
null_means (shape.rows rs) p m = let (xs, is, same, each) = m in true≢false (sym is)

-- ---- parts

one_at : (o : Ordering) (found : Option Data) (k : List ℕ) (d c : Data) (ms : Members) → match_ordering o found (Some d) found ≡ Some c → (found ≡ Some c → (q : List ℕ) × Have ms q c)
    → (q : List ℕ) × Have (member k d ms) q c
one_at Less found k d c ms e rest = let (q, has) = rest e in (q, inr has)
one_at Equal found k d c ms e rest = let same : c ≡ d = cc in (k, inl (refl, same))
one_at Greater found k d c ms e rest = let (q, has) = rest e in (q, inr has)

at_name : (name : List ℕ) (ms : Members) (c : Data) → get_member name ms ≡ Some c → (q : List ℕ) × Have ms q c
at_name name no_members c e = absurd cc
at_name name (member k d ms) c e = one_at (slice_cmp nat_cmp name k) (get_member name ms) k d c ms e (at_name name ms c)

pub under_means : (s : Shape) (name : List ℕ) (d c : Data) → IsOf (Some s) d → present name d ≡ Some c → IsOf (under_shape name s) c
under_means (shape.rows rs) name d c is e = let (p, m) = is in let (xs, also, same, each) = m in row_means name rs xs d c each e
under_means (shape.map s) name d c is e =
    let (p, m) = is in
    let (ms, es, also, same, each) = m in
    let got : get name (object ms) ≡ Some c = subst (λ z. get name z ≡ Some c) (an_object d ms also) (shown_was (get name d) c e) in
    let (q, has) = at_name name ms c got in
    entry_means (Means s) ms es q c each has
under_means _ name d c is e = tt

pub item_means : (s : Shape) (d c : Data) (ds : Items) (i : ℕ) → IsOf (Some s) d → as_array d ≡ Some ds → get_item i ds ≡ Some c → IsOf (item_shape s) c
item_means (shape.list s) d c ds i is arr found =
    let (p, m) = is in
    let (es, ps, also, same, each) = m in
    each_item_means (Means s) ds ps i c (subst (λ z. EachMeans (Means s) z ps) (same_items es ds d also arr) each) found
item_means (shape.cap_set table) d c ds i is arr found =
    let (p, m) = is in
    let (es, bs, also, same, caps, set) = m in
    a_text table ds i c (subst (λ z. AreCapabilities table z) (same_items es ds d also arr) caps) found
item_means _ d c ds i is arr found = tt

pub each_means : (s : Shape) (name : List ℕ) (d c : Data) (ms : Members) → IsOf (Some s) d → as_object d ≡ Some ms → Have ms name c → IsOf (each_shape s) c
each_means (shape.map s) name d c ms is obj has =
    let (p, m) = is in
    let (ns, es, also, same, each) = m in
    entry_means (Means s) ms es name c (subst (λ z. EachEntryMeans (Means s) z es) (same_members ns ms d also obj) each) has
each_means _ name d c ms is obj has = tt

-- ---- where no null is

no_value : {A : Type 0} (f : Data → Option A) (d : Data) (ms : Members) (x : A) → as_object d ≡ Some ms → f (object ms) ≡ None → f d ≡ Some x → ⊥
no_value f d ms x obj none some = let lost : f d ≡ None = ap f (an_object d ms obj) ∙ none in cc

pub holds_none : (s : Shape) (d : Data) → IsOf (Some s) d → may_hold_null s ≡ false → HasNull d → ⊥
holds_none shape.text d is safe nil = let (p, m) = is in let (t, text, same) = m in let (name, h) = nil in let (ms, obj, has) = h in no_value as_str d ms t obj refl text
holds_none shape.truth d is safe nil = let (p, m) = is in let (b, truth, same) = m in let (name, h) = nil in let (ms, obj, has) = h in no_value as_bool d ms b obj refl truth
holds_none (shape.whole low high) d is safe nil =
    let (p, m) = is in
    let (z, whole, same, above, below) = m in
    let (name, h) = nil in
    let (ms, obj, has) = h in
    no_value as_whole d ms z obj refl whole
holds_none (shape.named table) d is safe nil = let (p, m) = is in let (t, text, same, listed) = m in let (name, h) = nil in let (ms, obj, has) = h in no_value as_str d ms t obj refl text
holds_none (shape.open_name table) d is safe nil = let (p, m) = is in let (t, text, same) = m in let (name, h) = nil in let (ms, obj, has) = h in no_value as_str d ms t obj refl text
holds_none shape.digest_text d is safe nil = let (p, m) = is in let (t, text, same, digest) = m in let (name, h) = nil in let (ms, obj, has) = h in no_value as_str d ms t obj refl text
holds_none shape.cpu_text d is safe nil = let (p, m) = is in let (t, text, same, cpus) = m in let (name, h) = nil in let (ms, obj, has) = h in no_value as_str d ms t obj refl text
holds_none (shape.cap_set table) d is safe nil =
    let (p, m) = is in
    let (ds, bs, arr, same, caps, set) = m in
    let (name, h) = nil in
    let (ms, obj, has) = h in
    no_value as_array d ms ds obj refl arr
holds_none (shape.list s) d is safe nil =
    let (p, m) = is in
    let (ds, ps, arr, same, each) = m in
    let (name, h) = nil in
    let (ms, obj, has) = h in
    no_value as_array d ms ds obj refl arr
holds_none (shape.map s) d is safe nil =
    let (p, m) = is in
    let (ns, es, also, same, each) = m in
    let (name, h) = nil in
    let (ms, obj, has) = h in
    let (q, means) = entry_means (Means s) ms es name _ (subst (λ z. EachEntryMeans (Means s) z es) (same_members ns ms d also obj) each) has in
    null_means s q means
holds_none shape.key_set d is safe nil =
    let (p, m) = is in
    let (ns, also, same, each) = m in
    let (name, h) = nil in
    let (ms, obj, has) = h in
    none_null ms name (subst AreObjects (same_members ns ms d also obj) each) has
holds_none shape.detail d is safe nil = true≢false safe
holds_none shape.free_map d is safe nil = true≢false safe
holds_none (shape.rows rs) d is safe nil = true≢false safe
