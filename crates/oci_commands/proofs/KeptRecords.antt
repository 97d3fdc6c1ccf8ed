-- Records with the members that they do not list.
use Rattle.std.proofs.Common.{◌≡◌, ◌<◌, ◌≤◌, ◌+◌, ◌∙◌, ◌++◌, ℕ, suc, List, [], ◌∷◌, None, Some, length, drop, get_or, drop-cons, arith, refl, sym, ap, subst}
use Rattle.std.proofs.lemmas.List.{drop_all}
use Rattle.serde_json.specs.Data.{Data, Items, item, Members, no_members, object}
use Rattle.serde_json.specs.Find.{as_object, at}
use Rattle.serde_json.specs.View.{view, items_view}
use Rattle.serde_json.specs.declared.value.Value.{Value}
use Rattle.oci_model.specs.Sizes.{items_size, size}
use Rattle.oci_model.specs.Shape.{Shape, names, rows, with_second}
use Rattle.oci_schema.specs.Reported.{names_in}
use Rattle.oci_schema.specs.Shapes.{alias_of, members_in}
use Rattle.oci_schema.specs.declared.record.Member.{Member}
use Rattle.oci_schema.proofs.Parts.{joined, joined_end, joined_more}
use Rattle.oci_commands.specs.Kept.{each_kept, in_object, kept, kept_or, kept_rows, with_unlisted_in}

names_same : (f : ℕ → Shape) (ms : List Member) → names (members_in f ms) ≡ names_in ms
names_same f [] = refl
names_same f (m ∷ ms) = ap (λ ns. m.name.now ∷ with_second (alias_of m.alias) ns) (names_same f ms)

-- the object that was made is the record's
pub record_kept : (s : Shape) (f : ℕ → Shape) (ms : List Member) (d c v : Data) (cs : Members) → s ≡ rows (members_in f ms) → as_object c ≡ Some cs
    → v ≡ object (with_unlisted_in (names_in ms) (as_object d) (kept_rows (members_in f ms) d c no_members)) → v ≡ kept s d c
record_kept s f ms d c v cs is there made =
    let own = λ (ns : List (List ℕ)). object (with_unlisted_in ns (as_object d) (kept_rows (members_in f ms) d c no_members)) in
    let whole : kept (rows (members_in f ms)) d c ≡ own (names (members_in f ms)) =
    ap (λ o. in_object (λ x. with_unlisted_in (names (members_in f ms)) (as_object d) (kept_rows (members_in f ms) d c no_members)) o c) there in
    made ∙ ap own (sym (names_same f ms)) ∙ sym whole ∙ ap (λ z. kept z d c) (sym is)

-- what is no object is as it is
pub no_object_kept : (s : Shape) (f : ℕ → Shape) (ms : List Member) (d c : Data) → s ≡ rows (members_in f ms) → as_object c ≡ None → c ≡ kept s d c
no_object_kept s f ms d c is none =
    sym (ap (λ z. kept z d c) is ∙ ap (λ o. in_object (λ x. with_unlisted_in (names (members_in f ms)) (as_object d) (kept_rows (members_in f ms) d c no_members)) o c) none)

-- one item more
pub items_more : (k : Data → Data → Data) (d : Data) (i : ℕ) (items made more : List Value) (x v : Value) (all : Items) → i < length items → x ≡ get_or items i x → more ≡ made ++ v ∷ []
    → view v ≡ kept_or k (at i d) (view x) → joined (items_view made) (each_kept k d i (items_view (drop i items))) ≡ all
    → joined (items_view more) (each_kept k d (i + 1) (items_view (drop (i + 1) items))) ≡ all
items_more k d i items made more x v all below same add is before =
    let step : i + 1 ≡ suc i = omega arith in
    let cut : drop i items ≡ x ∷ drop (suc i) items = drop-cons items i x below ∙ ap (λ y. y ∷ drop (suc i) items) (sym same) in
    let rest : Items = each_kept k d (i + 1) (items_view (drop (i + 1) items)) in
    ap (λ q. joined (items_view q) rest) add ∙ joined_more made v rest ∙ ap (λ e. joined (items_view made) (item e rest)) is
    ∙ ap (λ n. joined (items_view made) (item (kept_or k (at i d) (view x)) (each_kept k d (i + 1) (items_view (drop n items))))) step
    ∙ sym (ap (λ q. joined (items_view made) (each_kept k d i (items_view q))) cut) ∙ before

pub items_less : (i n : ℕ) (items : List Value) (x : Value) → i < length items → x ≡ get_or items i x → items_size (items_view (drop i items)) ≤ n → items_size (items_view (drop (i + 1) items)) ≤ n
items_less i n items x below same h =
    let step : i + 1 ≡ suc i = omega arith in
    let cut : drop i items ≡ x ∷ drop (suc i) items = drop-cons items i x below ∙ ap (λ y. y ∷ drop (suc i) items) (sym same) in
    let less : items_size (items_view (drop i items)) ≡ size (view x) + items_size (items_view (drop (suc i) items)) = ap (λ q. items_size (items_view q)) cut in
    let rest : items_size (items_view (drop (i + 1) items)) ≡ items_size (items_view (drop (suc i) items)) = ap (λ m. items_size (items_view (drop m items))) step in
    omega (arith, less, rest, h)

-- no item more
pub items_end : (k : Data → Data → Data) (d : Data) (i : ℕ) (items made : List Value) (all : Items) → length items ≤ i → joined (items_view made) (each_kept k d i (items_view (drop i items))) ≡ all → items_view made ≡ all
items_end k d i items made all over before =
    sym (joined_end (items_view made)) ∙ ap (λ q. joined (items_view made) (each_kept k d i (items_view q))) (sym (drop_all i items over)) ∙ before
