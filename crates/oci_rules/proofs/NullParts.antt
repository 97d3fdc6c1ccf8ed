-- What tests and conditions read of a part is the same with members left out that are null.
use Rattle.std.proofs.Common.{◌≡◌, ℕ, suc, ◌+◌, List, [], ◌∷◌, ◌++◌, Bool, false, not, ◌&&◌, ◌||◌, length, bytes_eq, Option, Some, None, is_some, option_and_then, option_map, cond, refl, sym, ap, ◌∙◌, subst}
use Rattle.std.specs.Prelude.{◌==◌, unwrap_or}
use Rattle.std.specs.Fmt.{signed_decimal}
use Rattle.std.specs.List.{list_any, list_all}
use Rattle.std.specs.Option.{option_or}
use Rattle.serde_json.specs.Data.{Data, null, Items, no_items}
use Rattle.serde_json.specs.Events.{items_len}
use Rattle.serde_json.specs.Find.{as_bool, as_number, as_str, as_array, as_u64, get}
use Rattle.oci_base.specs.Classes.{until}
use Rattle.oci_base.specs.Names.{is_listed}
use Rattle.oci_grammars.specs.DecidedNesting.{is_inside}
use Rattle.oci_model.specs.Means.{as_whole}
use Rattle.oci_schema.specs.Leads.{AreOrderly}
use Rattle.oci_schema.specs.Places.{under_name, under_index}
use Rattle.oci_rules.specs.Decided.{if_any, there_and, some_item, has, is_empty, is_set, is_unset, is_one_of, is_item, is_as_many, has_text_under, all_items, is_apart, are_apart}
use Rattle.oci_rules.specs.Listed.{unless, with_text, twins, twins_of, has_text, others, others_of}
use Rattle.oci_rules.specs.Nulls.{EachLeavesOutNulls, no_item, an_item}
use Rattle.oci_rules.specs.Parts.{present, led, text_at, whole_at, natural_at, items_at, items_led, is_yes, is_true, without, scalar, joined, equals, key_of}
use Rattle.oci_rules.specs.Rules.{Rule, Key, itself, members, entry_name}
use Rattle.oci_rules.proofs.NullReads.{Thins, EachThins, Alike, AlikeItems, str_same, bool_same, number_same, whole_same, value_alike, present_alike, items_len_same, through_null, read_same, member_read, items_read, on_alike}
use Rattle.oci_rules.proofs.Steps.{others_same}

pub ap_two : {A B C : Type 0} (f : A → B → C) {a b : A} {c d : B} → a ≡ b → c ≡ d → f a c ≡ f b d
ap_two f {b = b} {c = c} p q = ap (λ z. f z c) p ∙ ap (f b) q

-- ---- by what is so of a value, if there is one

pub there_same : (f g : Data → Bool) → ((c b : Data) → Thins c b → f c ≡ g b) → (x y : Option Data) → Alike x y → there_and f x ≡ there_and g y
there_same f g same None None h = refl
there_same f g same None (Some e) h = absurd h
there_same f g same (Some d) None h = absurd h
there_same f g same (Some d) (Some e) h = same d e h

pub any_same : (f g : Data → Bool) → ((c b : Data) → Thins c b → f c ≡ g b) → (x y : Option Data) → Alike x y → if_any f x ≡ if_any g y
any_same f g same None None h = refl
any_same f g same None (Some e) h = absurd h
any_same f g same (Some d) None h = absurd h
any_same f g same (Some d) (Some e) h = same d e h

some_alike : (x y : Option Data) → Alike x y → is_some x ≡ is_some y
some_alike None None h = refl
some_alike None (Some e) h = absurd h
some_alike (Some d) None h = absurd h
some_alike (Some d) (Some e) h = refl

pub items_there : (f g : Items → Bool) → ((ds es : Items) → EachThins ds es → f ds ≡ g es) → (x y : Option Items) → AlikeItems x y → there_and f x ≡ there_and g y
items_there f g same None None h = refl
items_there f g same None (Some es) h = absurd h
items_there f g same (Some ds) None h = absurd h
items_there f g same (Some ds) (Some es) h = same ds es h

pub items_any : (f g : Items → Bool) → ((ds es : Items) → EachThins ds es → f ds ≡ g es) → (x y : Option Items) → AlikeItems x y → if_any f x ≡ if_any g y
items_any f g same None None h = refl
items_any f g same None (Some es) h = absurd h
items_any f g same (Some ds) None h = absurd h
items_any f g same (Some ds) (Some es) h = same ds es h

-- ---- members

pub has_same : (name : List ℕ) (d e : Data) → Thins d e → has d name ≡ has e name
has_same name d e h = some_alike (present name d) (present name e) (present_alike name d e h)

pub text_same : (name : List ℕ) (d e : Data) → Thins d e → text_at name d ≡ text_at name e
text_same name d e h = member_read as_str refl (λ c b k. str_same c b k.out) name d e h

pub whole_at_same : (name : List ℕ) (d e : Data) → Thins d e → whole_at name d ≡ whole_at name e
whole_at_same name d e h = member_read as_whole refl (λ c b k. whole_same c b k.out) name d e h

pub natural_same : (name : List ℕ) (d e : Data) → Thins d e → natural_at name d ≡ natural_at name e
natural_same name d e h = ap (option_and_then as_u64) (member_read as_number refl (λ c b k. number_same c b k.out) name d e h)

true_same : (name : List ℕ) (d e : Data) → Thins d e → is_true name d ≡ is_true name e
true_same name d e h = ap is_yes (member_read as_bool refl (λ c b k. bool_same c b k.out) name d e h)

pub items_at_alike : (name : List ℕ) (d e : Data) → Thins d e → AlikeItems (items_at name d) (items_at name e)
items_at_alike name d e h =
    subst (λ x. AlikeItems x (items_at name e)) (sym (through_null as_array refl (get name d)))
    (subst (λ y. AlikeItems (option_and_then as_array (present name d)) y) (sym (through_null as_array refl (get name e)))
    (items_read (present name d) (present name e) (present_alike name d e h)))

-- ---- where names lead

pub led_null : (way : List (List ℕ)) (d : Data) → d ≡ null → led way d ≡ None
led_null [] d is = rw is refl
led_null (name ∷ way) d is = rw is refl

pub led_alike : (way : List (List ℕ)) (d e : Data) → Thins d e → Alike (led way d) (led way e)
led_alike [] d e h = value_alike d e h
led_alike (name ∷ way) d e h =
    subst (λ x. Alike x (option_and_then (led way) (get name e))) (sym (through_null (led way) (led_null way null refl) (get name d)))
    (subst (λ y. Alike (option_and_then (led way) (present name d)) y) (sym (through_null (led way) (led_null way null refl) (get name e)))
    (on_alike (led way) (λ c b k. led_alike way c b k) (present name d) (present name e) (present_alike name d e h)))

pub items_led_alike : (way : List (List ℕ)) (d e : Data) → Thins d e → AlikeItems (items_led way d) (items_led way e)
items_led_alike way d e h = items_read (led way d) (led way e) (led_alike way d e h)

-- ---- items

some_each : (f g : Data → Bool) → ((c b : Data) → Thins c b → f c ≡ g b) → (ds es : Items) → EachLeavesOutNulls ds es → AreOrderly ds → some_item f ds ≡ some_item g es
some_each f g same _ _ no_item order = refl
some_each f g same _ _ (an_item {d = d} {e = e} {ds = ds} {es = es} one rest) order =
    ap_two (λ x y. x || y) (same d e (record { order = order.0; out = one })) (some_each f g same ds es rest order.1)

pub some_same : (f g : Data → Bool) → ((c b : Data) → Thins c b → f c ≡ g b) → (ds es : Items) → EachThins ds es → some_item f ds ≡ some_item g es
some_same f g same ds es h = some_each f g same ds es h.out h.order

all_each : (f g : Data → Bool) → ((c b : Data) → Thins c b → f c ≡ g b) → (ds es : Items) → EachLeavesOutNulls ds es → AreOrderly ds → all_items f ds ≡ all_items g es
all_each f g same _ _ no_item order = refl
all_each f g same _ _ (an_item {d = d} {e = e} {ds = ds} {es = es} one rest) order =
    ap_two (λ x y. x && y) (same d e (record { order = order.0; out = one })) (all_each f g same ds es rest order.1)

apart_same : (name : List ℕ) (c b d e : Data) → Thins c b → Thins d e → is_apart name c d ≡ is_apart name b e
apart_same name c b d e h k = ap_two (λ x y. if_any (λ s. if_any (λ t. not (is_inside s t)) y) x) (text_same name c b h) (text_same name d e k)

pub all_apart_same : (name : List ℕ) (ds es : Items) → EachThins ds es → are_apart name ds ds ≡ are_apart name es es
all_apart_same name ds es h =
    all_each (λ c. all_items (is_apart name c) ds) (λ b. all_items (is_apart name b) es)
    (λ c b k. all_each (is_apart name c) (is_apart name b) (λ d e l. apart_same name c b d e k l) ds es h.out h.order) ds es h.out h.order

without_each : (name : List ℕ) (ds es : Items) → EachLeavesOutNulls ds es → AreOrderly ds → without name ds ≡ without name es
without_each name _ _ no_item order = refl
without_each name _ _ (an_item {d = d} {e = e} {ds = ds} {es = es} one rest) order =
    ap_two (λ b n. cond b n (suc n)) (true_same name d e (record { order = order.0; out = one })) (without_each name ds es rest order.1)

many_in : (name : List ℕ) (ds es : Items) → EachThins ds es → (x y : Option Items) → AlikeItems x y
    → if_any (λ cs. without name ds == items_len cs) x ≡ if_any (λ cs. without name es == items_len cs) y
many_in name ds es h x y k =
    items_any (λ cs. without name ds == items_len cs) (λ cs. without name es == items_len cs)
    (λ cs bs l. ap_two (λ m n. m == n) (without_each name ds es h.out h.order) (items_len_same cs bs l.out)) x y k

pub as_many_same : (name : List ℕ) (x y : Option Items) → AlikeItems x y → (v w : Option Items) → AlikeItems v w → is_as_many name x v ≡ is_as_many name y w
as_many_same name x y h v w k =
    items_any (λ ds. if_any (λ cs. without name ds == items_len cs) v) (λ ds. if_any (λ cs. without name ds == items_len cs) w) (λ ds es l. many_in name ds es l v w k) x y h

-- ---- texts

pub one_of_same : (ts : List (List ℕ)) (d e : Data) → Thins d e → is_one_of ts d ≡ is_one_of ts e
one_of_same ts d e h = ap (there_and (is_listed ts)) (str_same d e h.out)

pub under_same : (name t : List ℕ) (d e : Data) → Thins d e → has_text_under name t d ≡ has_text_under name t e
under_same name t d e h = ap (there_and (bytes_eq t)) (text_same name d e h)

-- ---- an item of a condition

pub names_all : (f g : List ℕ → Bool) → ((name : List ℕ) → f name ≡ g name) → (names : List (List ℕ)) → list_all f names ≡ list_all g names
names_all f g same [] = refl
names_all f g same (name ∷ names) = ap_two (λ x y. x && y) (same name) (names_all f g same names)

pub names_any : (f g : List ℕ → Bool) → ((name : List ℕ) → f name ≡ g name) → (names : List (List ℕ)) → list_any f names ≡ list_any g names
names_any f g same [] = refl
names_any f g same (name ∷ names) = ap_two (λ x y. x || y) (same name) (names_any f g same names)

empty_same : (d e : Data) → Thins d e → is_empty d ≡ is_empty e
empty_same d e h = ap (there_and (λ t. length t == 0)) (str_same d e h.out)

set_same : (name : List ℕ) (d e : Data) → Thins d e → is_set d name ≡ is_set e name
set_same name d e h =
    there_same (λ c. not (is_empty c)) (λ c. not (is_empty c)) (λ c b k. ap not (empty_same c b k)) (present name d) (present name e) (present_alike name d e h)

pub item_same : (name : List ℕ) (ts with without : List (List ℕ)) (d e : Data) → Thins d e → is_item name ts with without d ≡ is_item name ts with without e
item_same name ts with without d e h =
    ap_two (λ x y. x && y) (ap (there_and (is_listed ts)) (text_same name d e h))
    (ap_two (λ x y. x && y) (names_all (is_set d) (is_set e) (λ n. set_same n d e h) with) (names_all (is_unset d) (is_unset e) (λ n. ap not (set_same n d e h)) without))

-- ---- keys

scalar_same : (d e : Data) → Thins d e → scalar d ≡ scalar e
scalar_same d e h = ap_two (λ s z. option_or s (option_map signed_decimal z)) (str_same d e h.out) (whole_same d e h.out)

each_then : {A B : Type 0} (f g : A → Option B) → ((x : A) → f x ≡ g x) → (o : Option A) → option_and_then f o ≡ option_and_then g o
each_then f g same None = refl
each_then f g same (Some x) = same x

joined_same : (ways : List (List (List ℕ))) (at : List ℕ) (d e : Data) → Thins d e → joined at ways d ≡ joined at ways e
joined_same [] at d e h = refl
joined_same (way ∷ ways) at d e h =
    ap (option_and_then (λ t. joined (under_name at t) ways d)) (read_same scalar scalar_same (led way d) (led way e) (led_alike way d e h))
    ∙ each_then (λ t. joined (under_name at t) ways d) (λ t. joined (under_name at t) ways e) (λ t. joined_same ways (under_name at t) d e h) (option_and_then scalar (led way e))

key_same : (key : Key) (d e : Data) → Thins d e → key_of key d ≡ key_of key e
key_same itself d e h = scalar_same d e h
key_same (members ways) d e h = joined_same ways [] d e h
key_same entry_name d e h = ap (option_map (until equals)) (str_same d e h.out)

twins_each : (r : Rule) (key : Key) (at : List ℕ) (i : ℕ) (before : List ℕ → Bool) (ds es : Items) → EachLeavesOutNulls ds es → AreOrderly ds
    → twins r key at i before ds ≡ twins r key at i before es
twins_each r key at i before _ _ no_item order = refl
twins_each r key at i before _ _ (an_item {d = d} {e = e} {ds = ds} {es = es} one rest) order =
    ap (λ k. unless (not (there_and before k)) r (under_index at i) ++ twins r key at (i + 1) (with_text k before) ds) (key_same key d e (record { order = order.0; out = one }))
    ∙ ap (λ z. unless (not (there_and before (key_of key e))) r (under_index at i) ++ z) (twins_each r key at (i + 1) (with_text (key_of key e) before) ds es rest order.1)

pub twins_alike : (r : Rule) (key : Key) (at : List ℕ) (x y : Option Items) → AlikeItems x y → twins_of r key at x ≡ twins_of r key at y
twins_alike r key at None None h = refl
twins_alike r key at None (Some es) h = absurd h
twins_alike r key at (Some ds) None h = absurd h
twins_alike r key at (Some ds) (Some es) h = twins_each r key at 0 (λ q. false) ds es h.out h.order

-- ---- others

others_each : (r : Rule) (known : List ℕ → Bool) (at : List ℕ) (i : ℕ) (ds es : Items) → EachLeavesOutNulls ds es → others r known at i ds ≡ others r known at i es
others_each r known at i _ _ no_item = refl
others_each r known at i _ _ (an_item {d = d} {e = e} {ds = ds} {es = es} one rest) =
    ap_two (λ s z. unless (if_any known s) r (under_index at i) ++ z) (str_same d e one) (others_each r known at (i + 1) ds es rest)

others_alike : (r : Rule) (p q : List ℕ → Bool) → ((t : List ℕ) → p t ≡ q t) → (at : List ℕ) (x y : Option Items) → AlikeItems x y → others_of r p at x ≡ others_of r q at y
others_alike r p q same at None None h = refl
others_alike r p q same at None (Some es) h = absurd h
others_alike r p q same at (Some ds) None h = absurd h
others_alike r p q same at (Some ds) (Some es) h = others_same r p q same at 0 ds ∙ others_each r q at 0 ds es h.out

list_alike : (x y : Option Items) → AlikeItems x y → EachThins (unwrap_or x no_items) (unwrap_or y no_items)
list_alike None None h = record { order = tt; out = no_item }
list_alike None (Some es) h = absurd h
list_alike (Some ds) None h = absurd h
list_alike (Some ds) (Some es) h = h

texts_same : (ds es : Items) → EachThins ds es → (q : List ℕ) → has_text ds q ≡ has_text es q
texts_same ds es h q = some_same (λ d. there_and (bytes_eq q) (as_str d)) (λ d. there_and (bytes_eq q) (as_str d)) (λ c b k. ap (there_and (bytes_eq q)) (str_same c b k.out)) ds es h

pub among_same : (r : Rule) (a b at : List ℕ) (d e : Data) → Thins d e
    → others_of r (has_text (unwrap_or (items_at b d) no_items)) (under_name at a) (items_at a d) ≡ others_of r (has_text (unwrap_or (items_at b e) no_items)) (under_name at a) (items_at a e)
among_same r a b at d e h =
    others_alike r (has_text (unwrap_or (items_at b d) no_items)) (has_text (unwrap_or (items_at b e) no_items))
    (texts_same (unwrap_or (items_at b d) no_items) (unwrap_or (items_at b e) no_items) (list_alike (items_at b d) (items_at b e) (items_at_alike b d e h)))
    (under_name at a) (items_at a d) (items_at a e) (items_at_alike a d e h)
