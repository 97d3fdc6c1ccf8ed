-- Maps, entry by entry, in the order of the names.
use Rattle.std.proofs.Common.{◌≡◌, List, [], ◌∷◌, ◌++◌, map, Some, None, String, Global, Less, Greater, string_bytes, string_cmp, nat_cmp, refl, subst, ap, ◌∙◌, append-nil}
use Rattle.std.proofs.lemmas.Cmp.{nat_list_cmp_total}
use Rattle.std.specs.Cmp.Lexicographic.{slice_cmp}
use Rattle.std.specs.List.{AllByRecursion}
use Rattle.std.specs.List.Sorted.{IsStrictlySortedBy}
use Rattle.std.specs.Map.{keys_of}
use Rattle.std.specs.Ordering.{ordering_reverse}
use Rattle.std.specs.BTreeMap.{insert_entry}
use Rattle.serde_json.specs.Data.{Data, member, put}
use Rattle.serde_json.specs.Find.{as_object}
use Rattle.serde_json.specs.View.{view, members_view}
use Rattle.serde_json.specs.declared.value.Value.{Value}
use Rattle.oci_model.specs.Plain.{Plain, Entries, no_entries, entry, entries}
use Rattle.oci_model.specs.Shape as shape
use Rattle.oci_model.specs.Shape.{Shape}
use Rattle.oci_model.specs.Means.{EachEntryMeans, Means}
use Rattle.oci_model.specs.Fits.{EachEntry}
use Rattle.oci_model.specs.Refused.{IsRefused}
use Rattle.oci_model.specs.Value.{each_entry_value}

abbrev pub Found : Type 0
Found = String Global × Value

abbrev pub entries_of : {T : Type 0} → (T → Plain) → List (String Global × T) → Entries
entries_of f es = entries (map (λ e. (string_bytes e.0, f e.1)) es)

pub not_object : (s : Shape) (d : Data) → None ≡ as_object d → IsRefused (shape.map s) d
unfolding IsRefused
not_object s d e p m = let k = e ∙ m.2 in cc

-- nothing is left
pub whole : {X : Type 0} {all left : List X} (done : List X) → all ≡ done ++ left → left ≡ [] → all ≡ done
whole done e none = e ∙ rw none (append-nil done)

below_last : {X : Type 0} (first : String Global) (done : List (String Global × X)) (e : String Global × X) (more : List (String Global × X))
    → AllByRecursion (λ y. string_cmp first y ≡ Less) (keys_of (done ++ e ∷ more)) → string_cmp first e.0 ≡ Less
below_last first [] e more h = h.0
below_last first (x ∷ done) e more h = below_last first done e more h.1

-- the last name is above those before it
above : {X : Type 0} (first : String Global × X) (done : List (String Global × X)) (e : String Global × X) (more : List (String Global × X))
    → IsStrictlySortedBy string_cmp (keys_of (first ∷ (done ++ e ∷ more))) → slice_cmp nat_cmp (string_bytes e.0) (string_bytes first.0) ≡ Greater
unfolding IsStrictlySortedBy
above first done e more h = nat_list_cmp_total.antisymm (string_bytes e.0) (string_bytes first.0) ∙ ap ordering_reverse (below_last first.0 done e more h.0)

later : {X : Type 0} (first : String Global × X) (es : List (String Global × X)) → IsStrictlySortedBy string_cmp (keys_of (first ∷ es)) → IsStrictlySortedBy string_cmp (keys_of es)
unfolding IsStrictlySortedBy
later first es h = h.1

module _ (M : Data → Plain → Type 0) {T : Type 0} (f : T → Plain) where
  pub entry_more : (done : List Found) (e : Found) (more : List Found) (es : List (String Global × T)) (k : String Global) (x : T)
      → IsStrictlySortedBy string_cmp (keys_of (done ++ e ∷ more)) → string_bytes k ≡ string_bytes e.0 → M (view e.1) (f x)
      → EachEntryMeans M (members_view done) (entries_of f es) → EachEntryMeans M (members_view (done ++ e ∷ [])) (entries_of f (insert_entry string_cmp es k x))
  entry_more [] e more [] k x sorted named m h = (named, m, tt)
  entry_more [] e more (p ∷ es) k x sorted named m h = absurd h
  entry_more (d ∷ done) e more [] k x sorted named m h = absurd h
  entry_more (d ∷ done) e more (p ∷ es) k x sorted named m h =
      let after : slice_cmp nat_cmp (string_bytes k) (string_bytes p.0) ≡ Greater = rw (named, h.0) (above d done e more sorted) in
      rw after (h.0, h.1, entry_more done e more es k x (later d (done ++ e ∷ more) sorted) named m h.2)

none_here : (s : Shape) (done : List Found) (e : Found) (more : List Found) (es : Entries) → IsRefused s (view e.1) → EachEntryMeans (Means s) (members_view (done ++ e ∷ more)) es → ⊥
unfolding IsRefused
none_here s [] e more no_entries refused h = h
none_here s [] e more (entry k p es) refused h = refused p h.1
none_here s (d ∷ done) e more no_entries refused h = h
none_here s (d ∷ done) e more (entry k p es) refused h = none_here s done e more es refused h.2

pub map_refused : (s : Shape) (d : Data) (all done : List Found) (e : Found) (more : List Found) → Some (members_view all) ≡ as_object d → all ≡ done ++ e ∷ more
    → IsRefused s (view e.1) → IsRefused (shape.map s) d
unfolding IsRefused
map_refused s d all done e more found is refused p m =
    let seen : m.0 ≡ members_view all = (let k = found ∙ m.2 in cc) in
    none_here s done e more m.1 refused (subst (λ ms. EachEntryMeans (Means s) ms m.1) (seen ∙ ap members_view is) m.4)

module _ (P : Plain → Type 0) {T : Type 0} (f : T → Plain) where
  pub all_entries_more : (done : List (String Global × T)) (e : String Global × T) → EachEntry P (entries_of f done) → P (f e.1) → EachEntry P (entries_of f (done ++ e ∷ []))
  all_entries_more [] e h p = (p, tt)
  all_entries_more (d ∷ done) e h p = (h.0, all_entries_more done e h.1 p)

  pub some_entry_lacks : (done : List (String Global × T)) (e : String Global × T) (more : List (String Global × T)) → (P (f e.1) → ⊥) → EachEntry P (entries_of f (done ++ e ∷ more)) → ⊥
  some_entry_lacks [] e more lacks h = lacks h.0
  some_entry_lacks (d ∷ done) e more lacks h = some_entry_lacks done e more lacks h.1

module _ (g : Plain → Data) {T : Type 0} (f : T → Plain) where
  pub put_last : (done : List (String Global × T)) (e : String Global × T) (more : List (String Global × T)) → IsStrictlySortedBy string_cmp (keys_of (done ++ e ∷ more))
      → put (string_bytes e.0) (g (f e.1)) (each_entry_value g (entries_of f done)) ≡ each_entry_value g (entries_of f (done ++ e ∷ []))
  put_last [] e more sorted = refl
  put_last (d ∷ done) e more sorted =
      rw (above d done e more sorted) (ap (member (string_bytes d.0) (g (f d.1))) (put_last done e more (later d (done ++ e ∷ more) sorted)))

module _ {T : Type 0} (f : T → Plain) where
  pub copies_last : (done : List (String Global × T)) (e : String Global × T) (more es : List (String Global × T)) (k : String Global) (x : T)
      → IsStrictlySortedBy string_cmp (keys_of (done ++ e ∷ more)) → string_bytes k ≡ string_bytes e.0 → f x ≡ f e.1
      → entries_of f es ≡ entries_of f done → entries_of f (insert_entry string_cmp es k x) ≡ entries_of f (done ++ e ∷ [])
  copies_last [] e more [] k x sorted named same h = rw (named, same) refl
  copies_last [] e more (p ∷ es) k x sorted named same h = cc
  copies_last (d ∷ done) e more [] k x sorted named same h = cc
  copies_last (d ∷ done) e more (p ∷ es) k x sorted named same h =
      let first : string_bytes p.0 ≡ string_bytes d.0 = cc in
      let content : f p.1 ≡ f d.1 = cc in
      let after : slice_cmp nat_cmp (string_bytes k) (string_bytes p.0) ≡ Greater = rw (named, first) (above d done e more sorted) in
      let rest = copies_last done e more es k x (later d (done ++ e ∷ more) sorted) named same (cc) in
      rw (after, first, content, rest) refl
