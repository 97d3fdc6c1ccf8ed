-- A pointer that leads to a part is read as that part.
use Rattle.std.proofs.Common.{◌≡◌, ◌≢◌, inl, inr, ℕ, zero, suc, ◌^◌, ◌<◌, ◌≤◌, List, [], ◌∷◌, ◌++◌, length, get_or, Bool, true, false, Some, None, option_and_then, Ordering, Less, Equal, Greater, nat_cmp, decimal, refl, sym, ap, ◌∙◌, subst, arith, append_assoc, append-nil, lt-ltb, eq-eqb, ne_eqb}
use Rattle.std.specs.Prelude.{◌==◌, ◌||◌, not, slice_index}
use Rattle.std.specs.Char.{digit_value}
use Rattle.std.specs.Ordering.{match_ordering}
use Rattle.std.specs.Cmp.{Equal-is}
use Rattle.std.specs.Cmp.Lexicographic.{slice_cmp}
use Rattle.std.specs.Str.Parse.{AllDigits}
use Rattle.std.proofs.lemmas.Bool.{eqb-true, eqb-false}
use Rattle.std.proofs.lemmas.Fmt.{decimal_is_IsNumeral, decimal_nonempty, decimal_digit, first_decimal}
use Rattle.std.proofs.lemmas.Map.Lookups.{exact_bytes}
use Rattle.std.proofs.lemmas.Map.Text.{is_eq-slice_cmp}
use Rattle.std.proofs.lemmas.Slice.Eq.{bytes_eq-Decides}
use Rattle.fast_float.specs.Text.{Parts, scan, digits_of, IsWellFormed}
use Rattle.fast_float.proofs.Writing.{scan-text_of}
use Rattle.serde_json.specs.Data.{Data, null, boolean, number, string, array, object, Items, no_items, item, Members, no_members, member}
use Rattle.serde_json.specs.Events.{items_len}
use Rattle.serde_json.specs.Read.{is_integer}
use Rattle.serde_json.specs.Find.{get_item, get_member, unescape, index_of, step, walk, pointer}
use Rattle.serde_json.proofs.Paths.{Lacks, walk_part, walk_last}
use Rattle.oci_json.specs.Readable.{IsBefore, IsInOrder}
use Rattle.oci_schema.specs.Places.{escaped, under_name, under_index}
use Rattle.oci_schema.specs.Leads.{Step, to_member, to_item, spelled, Have, HasMember, HasItem, Goes, LeadsTo, IsOrderly, AreOrderly, HoldOrderly}
use Rattle.oci_schema.proofs.EachPart.{no_some}

-- ---- names

unescape_other : (x : ℕ) (rest : List ℕ) → x ≢ 126 → unescape (x ∷ rest) ≡ x ∷ unescape rest
unfolding unescape
unescape_other x [] h = refl
unescape_other x (y ∷ rest) h = rw (ne_eqb x 126 h) refl

escaped_other : (b : ℕ) (t : List ℕ) → b ≢ 126 → b ≢ 47 → escaped (b ∷ t) ≡ b ∷ escaped t
escaped_other b t h k = rw (ne_eqb b 126 h, ne_eqb b 47 k) refl

-- byte by byte
module _ (P : List ℕ → List ℕ → Type 0) (none : P [] []) (tilde : (t : List ℕ) → P t (escaped t) → P (126 ∷ t) (126 ∷ 48 ∷ escaped t))
    (cut : (t : List ℕ) → P t (escaped t) → P (47 ∷ t) (126 ∷ 49 ∷ escaped t)) (other : (b : ℕ) (t : List ℕ) → b ≢ 126 → b ≢ 47 → P t (escaped t) → P (b ∷ t) (b ∷ escaped t)) where
  byte : (b : ℕ) (t : List ℕ) (x y : Bool) → (b == 126) ≡ x → (b == 47) ≡ y → P t (escaped t) → P (b ∷ t) (escaped (b ∷ t))
  byte b t true y e h rest = subst (λ c. P (c ∷ t) (escaped (c ∷ t))) (sym (eqb-true b 126 e)) (tilde t rest)
  byte b t false true e h rest = subst (λ c. P (c ∷ t) (escaped (c ∷ t))) (sym (eqb-true b 47 h)) (cut t rest)
  byte b t false false e h rest = subst (λ s. P (b ∷ t) s) (sym (escaped_other b t (eqb-false b 126 e) (eqb-false b 47 h))) (other b t (eqb-false b 126 e) (eqb-false b 47 h) rest)

  bytes : (name : List ℕ) → P name (escaped name)
  bytes [] = none
  bytes (b ∷ t) = byte b t (b == 126) (b == 47) refl refl (bytes t)

lacks_cons : (c x : ℕ) (xs : List ℕ) → x ≢ c → Lacks c xs → Lacks c (x ∷ xs)
lacks_cons c x xs h hs zero less = h
lacks_cons c x xs h hs (suc i) less = hs i (omega arith)

lacks_none : (c : ℕ) → Lacks c []
lacks_none c i less = absurd (omega arith)

pub name_lacks : (name : List ℕ) → Lacks 47 (escaped name)
name_lacks = bytes (λ t s. Lacks 47 s) (lacks_none 47)
    (λ t h. lacks_cons 47 126 (48 ∷ escaped t) (λ e. cc) (lacks_cons 47 48 (escaped t) (λ e. cc) h))
    (λ t h. lacks_cons 47 126 (49 ∷ escaped t) (λ e. cc) (lacks_cons 47 49 (escaped t) (λ e. cc) h))
    (λ b t h k hs. lacks_cons 47 b (escaped t) k hs)

pub name_back : (name : List ℕ) → unescape (escaped name) ≡ name
unfolding unescape
name_back = bytes (λ t s. unescape s ≡ t) refl (λ t h. ap (λ r. 126 ∷ r) h) (λ t h. ap (λ r. 47 ∷ r) h) (λ b t h k hs. unescape_other b (escaped t) h ∙ ap (λ r. b ∷ r) hs)

-- ---- indices

digits_lack : (ds : List ℕ) → AllDigits 10 ds → Lacks 47 ds
digits_lack [] h = lacks_none 47
digits_lack (d ∷ ds) h = lacks_cons 47 d ds (λ e. not_slash e) (digits_lack ds h.1)
  where
    not_slash : d ≡ 47 → ⊥
    not_slash e = let digit : digit_value d < 10 = h.0 in grind arith

abbrev digits : List ℕ → Parts
digits ds = record { whole = ds; point = false; fraction = []; exponent_negative = false; exponent = []; len = length (ds ++ []) }

scan_decimal : (n : ℕ) → n < 2 ^ 64 → scan (decimal n) ≡ digits (decimal n)
scan_decimal n h =
    let e = decimal_is_IsNumeral n h in
    let formed : IsWellFormed (digits (decimal n)) = record { whole_digits = e.0.1; fraction_digits = tt; exponent_digits = tt; no_point = λ _. refl; no_exponent = λ _. refl; len_is = refl } in
    ap scan (sym (append-nil (decimal n))) ∙ scan-text_of (digits (decimal n)) formed

chosen : (n : ℕ) (p : Parts) (s : List ℕ) → scan s ≡ p → is_integer p ≡ true → p.len ≡ length s → digits_of p ≡ n → n < 2 ^ 64 → (length s == 1 || not (slice_index s 0 == 48)) ≡ true → index_of s ≡ Some n
unfolding index_of
chosen n p s e whole len value h first = rw (e, whole, len, eq-eqb (length s) (length s) refl, value, lt-ltb n (2 ^ 64) h, first) refl

or_later : (b c : Bool) → c ≡ true → (b || c) ≡ true
or_later true c e = refl
or_later false c e = e

no_zero : (n : ℕ) → n < 2 ^ 64 → (length (decimal n) == 1 || not (slice_index (decimal n) 0 == 48)) ≡ true
no_zero zero h = rw (decimal_digit 0 (omega arith)) refl
no_zero (suc n) h =
    let first : 48 < get_or (decimal (suc n)) 0 0 = first_decimal (suc n) (omega arith) h in
    or_later (length (decimal (suc n)) == 1) _ (ap not (ne_eqb (get_or (decimal (suc n)) 0 0) 48 (λ e. absurd (omega arith))))

index_back : (n : ℕ) → n < 2 ^ 64 → index_of (decimal n) ≡ Some n
index_back n h =
    let e = decimal_is_IsNumeral n h in
    let some : 0 < length (decimal n) = decimal_nonempty n h in
    chosen n (digits (decimal n)) (decimal n) (scan_decimal n h) (rw (lt-ltb 0 (length (decimal n)) some) refl) (ap length (append-nil (decimal n))) (rw append-nil e.1) h (no_zero n h)

-- ---- one step

same_text : (xs : List ℕ) → slice_cmp nat_cmp xs xs ≡ Equal
same_text xs = (Equal-is (slice_cmp nat_cmp xs xs)).0 (is_eq-slice_cmp xs xs ∙ (bytes_eq-Decides xs xs).1 refl)

passes : (name k : List ℕ) (d c : Data) (ms : Members) (o : Ordering) → slice_cmp nat_cmp name k ≡ o → (name ≡ k → ⊥) → get_member name ms ≡ Some c
    → match_ordering o (get_member name ms) (Some d) (get_member name ms) ≡ Some c
passes name k d c ms Less is other e = e
passes name k d c ms Equal is other e = absurd (other (exact_bytes name k is))
passes name k d c ms Greater is other e = e

-- a name that stands before all others is none of them
not_after : (k name : List ℕ) (c : Data) (ms : Members) → IsBefore k ms → Have ms name c → name ≡ k → ⊥
not_after k name c no_members before has e = has
not_after k name c (member l d ms) before (inl is) e = let same : slice_cmp nat_cmp k l ≡ Equal = ap (slice_cmp nat_cmp k) (sym is.0 ∙ e) ∙ same_text k in let less = before.0 in cc
not_after k name c (member l d ms) before (inr has) e = not_after k name c ms before.1 has e

member_found : (name : List ℕ) (c : Data) (ms : Members) → IsInOrder ms → HoldOrderly ms → Have ms name c → (get_member name ms ≡ Some c) × IsOrderly c
member_found name c no_members order orderly has = absurd has
member_found name c (member k d ms) order orderly (inl is) =
    let same : slice_cmp nat_cmp name k ≡ Equal = ap (slice_cmp nat_cmp name) (sym is.0) ∙ same_text name in
    (ap (λ o. match_ordering o (get_member name ms) (Some d) (get_member name ms)) same ∙ ap Some (sym is.1), subst IsOrderly (sym is.1) orderly.0)
member_found name c (member k d ms) order orderly (inr has) =
    let later = member_found name c ms order.1 orderly.1 has in
    (passes name k d c ms (slice_cmp nat_cmp name k) refl (not_after k name c ms order.0 has) later.0, later.1)

to_the_member : (name : List ℕ) (d c : Data) → IsOrderly d → HasMember d name c → (step (escaped name) d ≡ Some c) × IsOrderly c
to_the_member name null c orderly has = let (ms, is, have) = has in no_some ms is
to_the_member name (boolean b) c orderly has = let (ms, is, have) = has in no_some ms is
to_the_member name (number n) c orderly has = let (ms, is, have) = has in no_some ms is
to_the_member name (string t) c orderly has = let (ms, is, have) = has in no_some ms is
to_the_member name (array ds) c orderly has = let (ms, is, have) = has in no_some ms is
to_the_member name (object ns) c orderly has =
    let (ms, is, have) = has in
    let same : ms ≡ ns = cc in
    let there = member_found name c ns orderly.0 orderly.1 (subst (λ m. Have m name c) same have) in
    (ap (λ t. get_member t ns) (name_back name) ∙ there.0, there.1)

item_found : (i : ℕ) (c : Data) (ds : Items) → AreOrderly ds → get_item i ds ≡ Some c → (i < items_len ds) × IsOrderly c
item_found i c no_items orderly e = no_some c e
item_found zero c (item d ds) orderly e = let same : d ≡ c = cc in (omega arith, subst IsOrderly same orderly.0)
item_found (suc i) c (item d ds) orderly e = let later = item_found i c ds orderly.1 e in let less : i < items_len ds = later.0 in (omega arith, later.1)

to_the_item : (i : ℕ) (d c : Data) → IsOrderly d → HasItem d i c → (i < 2 ^ 64) × (step (decimal i) d ≡ Some c) × IsOrderly c
to_the_item i null c orderly has = let (ds, is, e) = has in no_some ds is
to_the_item i (boolean b) c orderly has = let (ds, is, e) = has in no_some ds is
to_the_item i (number n) c orderly has = let (ds, is, e) = has in no_some ds is
to_the_item i (string t) c orderly has = let (ds, is, e) = has in no_some ds is
to_the_item i (object ms) c orderly has = let (ds, is, e) = has in no_some ds is
to_the_item i (array es) c orderly has =
    let (ds, is, e) = has in
    let same : ds ≡ es = cc in
    let here : get_item i es ≡ Some c = subst (λ l. get_item i l ≡ Some c) same e in
    let there = item_found i c es orderly.1 here in
    let short : items_len es ≤ 2 ^ 64 = orderly.0 in
    let below : i < items_len es = there.0 in
    let fits : i < 2 ^ 64 = omega arith in
    (fits, ap (option_and_then (λ j. get_item j es)) (index_back i fits) ∙ here, there.1)

-- ---- all steps

abbrev pub token : Step → List ℕ
token (to_member name) = escaped name
token (to_item i) = decimal i

abbrev pub tokens : List Step → List ℕ
tokens [] = []
tokens (x ∷ way) = 47 ∷ (token x ++ tokens way)

pub spelled_tokens : (way : List Step) (at : List ℕ) → spelled at way ≡ at ++ tokens way
spelled_tokens [] at = sym (append-nil at)
spelled_tokens (to_member name ∷ way) at = spelled_tokens way (under_name at name) ∙ append_assoc at (47 ∷ escaped name) (tokens way)
spelled_tokens (to_item i ∷ way) at = spelled_tokens way (under_index at i) ∙ append_assoc at (47 ∷ decimal i) (tokens way)

abbrev pub Took : Step → List Step → Data → Data → Type 0
Took x way d part = Lacks 47 (token x) × ((c : Data) × (step (token x) d ≡ Some c) × IsOrderly c × Goes way c part)

pub took : (x : Step) (way : List Step) (d part : Data) → IsOrderly d → Goes (x ∷ way) d part → Took x way d part
took (to_member name) way d part orderly goes =
    let (c, has, more) = goes in
    let there = to_the_member name d c orderly has in
    (name_lacks name, (c, there.0, there.1, more))
took (to_item i) way d part orderly goes =
    let (c, has, more) = goes in
    let (fits, there, inner) = to_the_item i d c orderly has in
    (digits_lack (decimal i) (decimal_is_IsNumeral i fits).0.1, (c, there, inner, more))

walks : (x : Step) (way : List Step) (d part : Data) → IsOrderly d → Goes (x ∷ way) d part → walk [] (token x ++ tokens way) d ≡ Some part
walks x [] d part orderly goes =
    let (lacks, rest) = took x [] d part orderly goes in
    let (c, there, inner, same) = rest in
    ap (λ t. walk [] t d) (append-nil (token x)) ∙ walk_last (token x) d lacks ∙ there ∙ ap Some same
walks x (y ∷ way) d part orderly goes =
    let (lacks, rest) = took x (y ∷ way) d part orderly goes in
    let (c, there, inner, more) = rest in
    walk_part (token x) (token y ++ tokens way) d lacks ∙ ap (option_and_then (walk [] (token y ++ tokens way))) there ∙ walks y way c part inner more

pub reads : (way : List Step) (d part : Data) → IsOrderly d → Goes way d part → pointer (tokens way) d ≡ Some part
reads [] d part orderly same = ap Some same
reads (x ∷ way) d part orderly goes = walks x way d part orderly goes

pub found : (d part : Data) (at : List ℕ) → IsOrderly d → LeadsTo d at part → pointer at d ≡ Some part
found d part at orderly leads =
    let (way, is, goes) = leads in
    subst (λ t. pointer t d ≡ Some part) (sym (spelled_tokens way []) ∙ is) (reads way d part orderly goes)
