-- What is listed of the entries of an archive.
use Rattle.std.proofs.Common.{◌≡◌, ℕ, ◌+◌, ◌<◌, ◌≤◌, Bool, true, List, [], ◌∷◌, ◌++◌, length, map, take, get_or, Option, Some, None, string_bytes, inl, inr, refl, sym, ap, ◌∙◌, subst, append-nil, arith}
use Rattle.std.specs.Prelude.{◌⊎◌}
use Rattle.std.specs.List.{All, Contains, filter_map, cons_option}
use Rattle.std.proofs.lemmas.List.{take_more, take_all, map-append}
use Rattle.std.proofs.lemmas.List.Elements.{All-contains, All-push, All-same, filter_map-append}
use Rattle.oci_layout.specs.Names.{IsListed, IsListing}
use Rattle.oci_layout.specs.declared.store.Listed.{Listed}
use Rattle.tar.specs.Entries.{Member, member_of}
use Rattle.tar.specs.declared.index.Place.{Place}
use Rattle.oci_archive.specs.Layouts.{name_of, names_in}
use Rattle.tar_folder.proofs.Elements.{in_map, map_in, in_filter, filter_in}
use Rattle.oci_archive.specs.Listings.{paths_of, IsOneMore, AddsName, IsListOf}
use Rattle.tar_folder.specs.Marks.{placed, extents}
use Rattle.tar_folder.specs.declared.extent.Extent.{Extent}

abbrev name_at : Place → Option (List ℕ)
name_at p = name_of (member_of p.entry)

-- ---- one entry more

pub one_added : (name : Option (List ℕ)) (old new : List Listed) (l : Listed) → new ≡ old ++ l ∷ [] → l.fault ≡ None → Some (string_bytes l.path) ≡ name → AddsName name old new
one_added name old new l more whole e = subst (λ o. AddsName o old new) e (record { one = l; whole = whole; path = refl; more = more })

added : (old new : List Listed) (names : List (List ℕ)) (p : Place) → AddsName (name_at p) old new → paths_of old ≡ names → All (λ l. l.fault ≡ None) old
    → (paths_of new ≡ names ++ filter_map name_at (p ∷ [])) × All (λ l. l.fault ≡ None) new
added old new names p h same whole = go (name_at p) h
  where
    go : (o : Option (List ℕ)) → AddsName o old new → (paths_of new ≡ names ++ cons_option o []) × All (λ l. l.fault ≡ None) new
    go None h = (ap paths_of h ∙ same ∙ sym (append-nil names), All-same (λ l. l.fault ≡ None) new old h whole)
    go (Some path) h = (
      ap paths_of h.more ∙ map-append (λ l. string_bytes l.path) old (h.one ∷ []) ∙ ap (λ (ns : List (List ℕ)). ns ++ string_bytes h.one.path ∷ []) same
          ∙ ap (λ (n : List ℕ). names ++ n ∷ []) h.path,
      All-same (λ l. l.fault ≡ None) new (old ++ h.one ∷ []) h.more (All-push (λ l. l.fault ≡ None) old h.one whole h.whole),
    )

pub list_more : (all : List Place) (i : ℕ) (d : Place) (old new : List Listed) → i < length all → IsListOf (take i all) old → AddsName (name_at (get_or all i d)) old new → IsListOf (take (i + 1) all) new
list_more all i d old new below h a =
    let both = added old new (filter_map name_at (take i all)) (get_or all i d) a h.paths h.whole in
    record {
      paths = both.0 ∙ sym (ap (filter_map name_at) (take_more all i d below) ∙ filter_map-append name_at (take i all) (get_or all i d ∷ []));
      whole = both.1;
    }

pub list_whole : (all : List Place) (i : ℕ) (listed : List Listed) → length all ≤ i → IsListOf (take i all) listed → IsListOf all listed
list_whole all i listed past h = subst (λ (l : List Place). IsListOf l listed) (take_all i all past) h

-- ---- the listing

pub listing : (steady : Bool) (places : List Place) (listed : List Listed) → IsListOf places listed → IsListing steady (names_in (extents places)) listed
listing steady places listed h = record {
  named = λ l held whole. named l held;
  whole = λ sure l held. All-contains (λ l. l.fault ≡ None) listed l h.whole held;
  all = λ sure path n. there path n;
}
  where
    named : (l : Listed) → Contains listed l → names_in (extents places) (string_bytes l.path)
    named l held =
        let k = subst (λ (ns : List (List ℕ)). Contains ns (string_bytes l.path)) h.paths (map_in (λ l. string_bytes l.path) listed l held) in
        let (p, found, e) = in_filter name_at places (string_bytes l.path) k in
        (placed p, map_in placed places p found, e)

    there : (path : List ℕ) → names_in (extents places) path → IsListed listed path
    there path (m, held, e) =
        let (p, found, same) = in_map placed places m held in
        let is : name_at p ≡ Some path = ap (λ (z : Member × Extent). name_of z.0) same ∙ e in
        let k = subst (λ (ns : List (List ℕ)). Contains ns path) (sym h.paths) (filter_in name_at places p path found is) in
        in_map (λ l. string_bytes l.path) listed path k
