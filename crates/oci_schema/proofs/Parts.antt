-- Values whose parts are normalized one by one.
use Rattle.std.proofs.Common.{◌≡◌, refl, sym, ap, ◌∙◌, Bool, true, false, ◌&&◌, List, [], ◌∷◌, ◌++◌, length, nat_cmp, string_bytes, string_cmp, arith, Result, Ok, Err, Greater, Less}
use Rattle.std.specs.Prelude.{IfOk}
use Rattle.std.specs.Cmp.Lexicographic.{slice_cmp}
use Rattle.std.specs.List.{AllByRecursion}
use Rattle.std.specs.List.Sorted.{IsStrictlySortedBy}
use Rattle.std.specs.Map.{keys_of}
use Rattle.std.specs.BTreeMap.{insert_entry}
use Rattle.std.specs.Ordering.{ordering_reverse}
use Rattle.std.proofs.lemmas.Cmp.{nat_list_cmp_total}
use Rattle.serde_json.specs.Data.{Data, Items, no_items, item, member, put}
use Rattle.serde_json.specs.View.{view, items_view, members_view}
use Rattle.serde_json.specs.declared.value.Value.{Value}
use Rattle.serde_json.proofs.Views.{Entry}
use Rattle.oci_model.specs.Means.{Means}
use Rattle.oci_model.specs.Plain.{Plain}
use Rattle.oci_model.specs.Refused.{IsRefused}
use Rattle.oci_model.specs.Shape.{Shape, detail}
use Rattle.oci_model.specs.Value.{value}
use Rattle.oci_model.specs.Writable.{Writable}
use Rattle.oci_model.proofs.Writers.{inserted}
use Rattle.oci_schema.specs.Allows.{allows, each_allowed}
use Rattle.oci_schema.specs.Normalized.{accepts, normalized, each_normalized, each_member_normalized}
use Rattle.oci_schema.proofs.Decides.{meant}
use Rattle.oci_schema.proofs.NormalForms.{told}

-- ---- lists and maps, part by part

-- the items of the one before those of the other
abbrev pub joined : Items → Items → Items
joined no_items es = es
joined (item d ds) es = item d (joined ds es)

pub joined_end : (ds : Items) → joined ds no_items ≡ ds
joined_end no_items = refl
joined_end (item d ds) = ap (item d) (joined_end ds)

pub joined_more : (vs : List Value) (v : Value) (es : Items) → joined (items_view (vs ++ v ∷ [])) es ≡ joined (items_view vs) (item (view v) es)
joined_more [] v es = refl
joined_more (w ∷ vs) v es = ap (item (view w)) (joined_more vs v es)

module _ (f : Data → Bool) (g : Data → Data) where
  -- one item more
  pub items_more : (all : Items) (before left made more : List Value) (v w : Value) → before ≡ v ∷ left → more ≡ made ++ w ∷ [] → (f (view v) ≡ true) × (view w ≡ g (view v))
      → each_allowed f all ≡ each_allowed f (items_view before) → each_normalized g all ≡ joined (items_view made) (each_normalized g (items_view before))
      → (each_allowed f all ≡ each_allowed f (items_view left)) × (each_normalized g all ≡ joined (items_view more) (each_normalized g (items_view left)))
  items_more all before left made more v w cut add h a m = (
    a ∙ ap (λ vs. each_allowed f (items_view vs)) cut ∙ ap (λ b. b && each_allowed f (items_view left)) h.0,
    m ∙ ap (λ vs. joined (items_view made) (each_normalized g (items_view vs))) cut
        ∙ ap (λ d. joined (items_view made) (item d (each_normalized g (items_view left)))) (sym h.1) ∙ sym (joined_more made w (each_normalized g (items_view left)))
        ∙ ap (λ vs. joined (items_view vs) (each_normalized g (items_view left))) (sym add),
  )

  -- no item more
  pub items_all : (all : Items) (before made : List Value) → before ≡ [] → each_allowed f all ≡ each_allowed f (items_view before)
      → each_normalized g all ≡ joined (items_view made) (each_normalized g (items_view before)) → (each_allowed f all ≡ true) × (items_view made ≡ each_normalized g all)
  items_all all before made none a m = (
    a ∙ ap (λ vs. each_allowed f (items_view vs)) none,
    sym (m ∙ ap (λ vs. joined (items_view made) (each_normalized g (items_view vs))) none ∙ joined_end (items_view made)),
  )

pub none_left : (vs : List Value) → length vs ≡ 0 → vs ≡ []
none_left [] e = refl
none_left (v ∷ vs) e = absurd (omega arith)

below_last : (first : Entry) (done : List Entry) (e : Entry) (more : List Entry) → AllByRecursion (λ y. string_cmp first.0 y ≡ Less) (keys_of (done ++ e ∷ more)) → string_cmp first.0 e.0 ≡ Less
below_last first [] e more h = h.0
below_last first (x ∷ done) e more h = below_last first done e more h.1

-- a name that is above those before it goes last
pub put_last : (f : Data → Data) (done : List Entry) (e : Entry) (more : List Entry) → IsStrictlySortedBy string_cmp (keys_of (done ++ e ∷ more))
    → put (string_bytes e.0) (f (view e.1)) (each_member_normalized f (members_view done)) ≡ each_member_normalized f (members_view (done ++ e ∷ []))
unfolding IsStrictlySortedBy
put_last f [] e more h = refl
put_last f (first ∷ done) e more h =
    let above : slice_cmp nat_cmp (string_bytes e.0) (string_bytes first.0) ≡ Greater =
    nat_list_cmp_total.antisymm (string_bytes e.0) (string_bytes first.0) ∙ ap ordering_reverse (below_last first done e more h.0) in
    rw above (ap (member (string_bytes first.0) (f (view first.1))) (put_last f done e more h.1))

-- one member more is put last
pub members_more : (g : Data → Data) (done left made more : List Entry) (e : Entry) (v : Value) → IsStrictlySortedBy string_cmp (keys_of (done ++ e ∷ left)) → view v ≡ g (view e.1)
    → more ≡ insert_entry string_cmp made e.0 v → members_view made ≡ each_member_normalized g (members_view done) → members_view more ≡ each_member_normalized g (members_view (done ++ e ∷ []))
members_more g done left made more e v sorted seen put_in h =
    inserted made more e.0 v (string_bytes e.0) (g (view e.1)) put_in refl seen ∙ ap (put (string_bytes e.0) (g (view e.1))) h ∙ put_last g done e left sorted

-- ---- kinds

-- what is refused is not allowed
pub not_allowed : (s : Shape) (d : Data) → IsRefused s d → allows s d ≡ false
unfolding IsRefused
not_allowed s d refused = here (allows s d) refl
  where
    here : (b : Bool) → allows s d ≡ b → b ≡ false
    here true e = let m = meant s d e in absurd (refused m.0 m.1)
    here false e = refl

pub not_accepted : (d : Data) → IsRefused detail d → accepts detail d ≡ false
not_accepted d refused = rw (not_allowed detail d refused) refl

-- what was read and written is the normal form, at the end of a call
pub written_told : {E : Type 0} (r : Result Value E) (s : Shape) (d : Data) (p : Plain) → Means s d p → Writable s p → IfOk r (λ v. view v ≡ value s p)
    → IfOk r (λ v. (accepts s d ≡ true) × (view v ≡ normalized s d))
written_told (Ok v) s d p m w e = let t = told s d p m w in (t.0, e ∙ sym t.1)
written_told (Err x) s d p m w e = tt
