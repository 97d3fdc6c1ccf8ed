-- Texts of capabilities, cut.
use Rattle.std.proofs.Common.{◌≡◌, ℕ, zero, suc, ◌<◌, List, [], ◌∷◌, ◌++◌, Bool, true, false, not, ◌&&◌, ◌||◌, length, bytes_eq, refl, ◌∙◌, sym, ap, subst, append_assoc, true≢false, arith, take, get_or, Option, Some, None}
use Rattle.std.proofs.lemmas.List.{take_more, get_or_default, map-append}
use Rattle.std.specs.Prelude.{IfNone, IsTrue, map, nat_eq, ◌+◌}
use Rattle.std.specs.Char.{to_ascii_lowercase}
use Rattle.std.specs.List.{list_all, starts_with}
use Rattle.std.proofs.lemmas.Slice.Eq.{bytes_eq-Decides}
use Rattle.oci_base.specs.Names.{is_listed}
use Rattle.oci_text.specs.declared.capability.Capability.{Capability}
use Rattle.oci_base.specs.Capabilities.{ascii_upper, cap, repeated, CapText, is_capability_name}
use Rattle.oci_text.specs.BareTexts.{IsBare}
use Rattle.oci_text.specs.Capability.{capability_name, capability_table, all_capability, capability_back}
use Rattle.oci_model.specs.Variants.{listed}

-- once more in front
pub repeated_more : (n : ℕ) (t : List ℕ) → repeated n cap ++ (cap ++ t) ≡ repeated (suc n) cap ++ t
repeated_more zero t = refl
repeated_more (suc n) t = append_assoc cap (repeated n cap) (cap ++ t) ∙ ap (λ u. cap ++ u) (repeated_more n t) ∙ sym (append_assoc cap (repeated (suc n) cap) t)

behind : (s t : List ℕ) → cap ++ s ≡ cap ++ t → s ≡ t
behind s t e = cc

-- what follows all `CAP_` is one text
pub one_rest : (n k : ℕ) (r name : List ℕ) → ((t : List ℕ) → r ≡ cap ++ t → ⊥) → ((t : List ℕ) → name ≡ cap ++ t → ⊥) → repeated n cap ++ r ≡ repeated k cap ++ name → r ≡ name
one_rest zero zero r name f g e = e
one_rest zero (suc k) r name f g e = absurd (f (repeated k cap ++ name) (e ∙ append_assoc cap (repeated k cap) name))
one_rest (suc n) zero r name f g e = absurd (g (repeated n cap ++ r) (sym e ∙ append_assoc cap (repeated n cap) r))
one_rest (suc n) (suc k) r name f g e = one_rest n k r name f g (behind (repeated n cap ++ r) (repeated k cap ++ name) (sym (append_assoc cap (repeated n cap) r) ∙ e ∙ append_assoc cap (repeated k cap) name))

pub upper-lower : (c : ℕ) → ascii_upper (to_ascii_lowercase c) ≡ ascii_upper c
upper-lower c = grind arith

pub lower-upper : (c : ℕ) → to_ascii_lowercase (ascii_upper c) ≡ to_ascii_lowercase c
lower-upper c = grind arith

uppers-lowers : (t : List ℕ) → map ascii_upper (map to_ascii_lowercase t) ≡ map ascii_upper t
uppers-lowers [] = refl
uppers-lowers (c ∷ t) = rw (upper-lower c, uppers-lowers t) refl

lowers-uppers : (t : List ℕ) → map to_ascii_lowercase (map ascii_upper t) ≡ map to_ascii_lowercase t
lowers-uppers [] = refl
lowers-uppers (c ∷ t) = rw (lower-upper c, lowers-uppers t) refl

-- texts that differ in case alone have one uppercase
pub same_upper : (s t : List ℕ) → map to_ascii_lowercase s ≡ map to_ascii_lowercase t → map ascii_upper s ≡ map ascii_upper t
same_upper s t e = sym (uppers-lowers s) ∙ ap (map ascii_upper) e ∙ uppers-lowers t

pub same_lower : (s t : List ℕ) → map ascii_upper s ≡ map ascii_upper t → map to_ascii_lowercase s ≡ map to_ascii_lowercase t
same_lower s t e = sym (lowers-uppers s) ∙ ap (map to_ascii_lowercase) e ∙ lowers-uppers t

-- ---- the names

both : (a b : Bool) → (a && b) ≡ true → (a ≡ true) × (b ≡ true)
both true b e = (refl, e)
both false b e = absurd (true≢false (sym e))

refuted : (b : Bool) → not b ≡ true → b ≡ false
refuted true e = absurd (true≢false (sym e))
refuted false e = refl

all_hold : (P : List ℕ → Bool) (table : List (List ℕ)) (name : List ℕ) → list_all P table ≡ true → is_listed table name ≡ true → P name ≡ true
all_hold P [] name all is = absurd (true≢false (sym is))
all_hold P (t ∷ table) name all is = here (bytes_eq name t) refl is (all_hold P table name (both (P t) _ all).1)
  where
    here : (b : Bool) → bytes_eq name t ≡ b → (b || is_listed table name) ≡ true → (is_listed table name ≡ true → P name ≡ true) → P name ≡ true
    here true e k later = subst (λ n. P n ≡ true) (sym ((bytes_eq-Decides name t).0 e)) (both (P t) _ all).0
    here false e k later = later k

names_are_upper : (name : List ℕ) → is_listed capability_table name ≡ true → map ascii_upper name ≡ name
names_are_upper name is = (bytes_eq-Decides (map ascii_upper name) name).0 (both (not (starts_with nat_eq name cap)) _ (all_hold is_capability_name capability_table name refl is)).1

names_are_bare : (name : List ℕ) → is_listed capability_table name ≡ true → (t : List ℕ) → name ≡ cap ++ t → ⊥
names_are_bare name is t e =
    let k = refuted (starts_with nat_eq name cap) (both (not (starts_with nat_eq name cap)) _ (all_hold is_capability_name capability_table name refl is)).0 in
    let j : starts_with nat_eq (cap ++ t) cap ≡ true = refl in
    true≢false (sym j ∙ sym (ap (λ n. starts_with nat_eq n cap) e) ∙ k)

-- a text with a variant's name in any case
pub of_its_name : (t n : List ℕ) (c : Capability) → n ≡ capability_name c → map to_ascii_lowercase t ≡ map to_ascii_lowercase n → map ascii_upper t ≡ capability_name c
of_its_name t n c is e = same_upper t n e ∙ ap (map ascii_upper) is ∙ names_are_upper (capability_name c) (listed capability_name all_capability capability_back c)

-- ---- one after the other

pub none_more : (table : List (List ℕ)) (t n : List ℕ) → is_listed table t ≡ false → (t ≡ n → ⊥) → is_listed (table ++ n ∷ []) t ≡ false
none_more [] t n e other = here (bytes_eq t n) refl
  where
    here : (b : Bool) → bytes_eq t n ≡ b → (b || false) ≡ false
    here true k = absurd (other ((bytes_eq-Decides t n).0 k))
    here false k = refl
none_more (u ∷ table) t n e other = here (bytes_eq t u) e (none_more table t n)
  where
    here : (b : Bool) → (b || is_listed table t) ≡ false → (is_listed table t ≡ false → (t ≡ n → ⊥) → is_listed (table ++ n ∷ []) t ≡ false) → (b || is_listed (table ++ n ∷ []) t) ≡ false
    here true k later = absurd (true≢false k)
    here false k later = later k other

not_of_it : (t n : List ℕ) (c : Capability) → n ≡ capability_name c → (map to_ascii_lowercase t ≡ map to_ascii_lowercase n → ⊥) → map ascii_upper t ≡ capability_name c → ⊥
not_of_it t n c is f e = f (same_lower t n (e ∙ sym (ap (map ascii_upper) is ∙ names_are_upper (capability_name c) (listed capability_name all_capability capability_back c))))

-- ---- the whole text

pub spelled : (text bare name : List ℕ) (n : ℕ) → map ascii_upper text ≡ repeated n cap ++ map ascii_upper bare → map ascii_upper bare ≡ name → CapText text name
spelled text bare name n strips e = (n, strips ∙ ap (λ u. repeated n cap ++ u) e)

pub not_spelled : (text bare name : List ℕ) (n : ℕ) → map ascii_upper text ≡ repeated n cap ++ map ascii_upper bare → IsBare bare → is_listed capability_table (map ascii_upper bare) ≡ false
    → IsTrue (is_listed capability_table name) → CapText text name → ⊥
not_spelled text bare name n strips is_bare none is spells =
    let same : map ascii_upper bare ≡ name = one_rest n spells.0 (map ascii_upper bare) name is_bare (names_are_bare name is) (sym strips ∙ spells.1) in
    true≢false (sym is ∙ sym (ap (is_listed capability_table) same) ∙ none)

-- nothing was found
pub if_none : {A : Type 0} {P Q : Type 0} (o : Option A) → IfNone o P → (P → Q) → IfNone o Q
if_none None p f = f p
if_none (Some x) p f = tt

-- the first of these, and one more
pub none_of_more : (all : List Capability) (i : ℕ) (t n : List ℕ) (d : Capability) → i < length all → n ≡ capability_name (get_or all i d)
    → is_listed (map capability_name (take i all)) (map ascii_upper t) ≡ false → (map to_ascii_lowercase t ≡ map to_ascii_lowercase n → ⊥)
    → is_listed (map capability_name (take (i + 1) all)) (map ascii_upper t) ≡ false
none_of_more all i t n d below is none other =
    rw (take_more all i (get_or all i d) below, get_or_default all i (get_or all i d) d below, map-append)
    (none_more (map capability_name (take i all)) (map ascii_upper t) (capability_name (get_or all i d)) none (not_of_it t n (get_or all i d) is other))

-- a text is of one name
pub one_name : (t m n : List ℕ) → IsTrue (is_listed capability_table m) → IsTrue (is_listed capability_table n) → CapText t m → CapText t n → m ≡ n
one_name t m n is_m is_n (j, e) (k, f) = one_rest j k m n (names_are_bare m is_m) (names_are_bare n is_n) (sym e ∙ f)

-- ---- bare names in exact case

-- the one with the name in any case has another name, so no one has it
pub other_name : (t : List ℕ) (c x : Capability) → map ascii_upper t ≡ capability_name c → (t ≡ capability_name c → ⊥) → capability_name x ≡ t → ⊥
other_name t c x e other is =
    let same : capability_name x ≡ map ascii_upper t = sym (names_are_upper (capability_name x) (listed capability_name all_capability capability_back x)) ∙ ap (map ascii_upper) is in
    other (sym is ∙ same ∙ e)

-- a text that is no one's in any case
pub no_name : (t : List ℕ) (x : Capability) → is_listed capability_table (map ascii_upper t) ≡ false → capability_name x ≡ t → ⊥
no_name t x none is =
    let there = listed capability_name all_capability capability_back x in
    let same : capability_name x ≡ map ascii_upper t = sym (names_are_upper (capability_name x) there) ∙ ap (map ascii_upper) is in
    true≢false (sym there ∙ ap (is_listed capability_table) same ∙ none)
