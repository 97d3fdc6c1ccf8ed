-- What is refused by where contents lie is what is refused by the contents.
use Rattle.std.proofs.Common.{◌≡◌, ℕ, ◌+◌, Bool, true, false, List, [], ◌∷◌, ◌++◌, map, Option, Some, None, refl, sym, ap, ◌∙◌}
use Rattle.std.specs.Prelude.{nat_lt, slice_get, option_and_then, option_map, is_none, not, ◌&&◌, cond, if◌then◌else◌}
use Rattle.std.specs.List.{filter}
use Rattle.std.specs.Option.{option_or}
use Rattle.std.proofs.lemmas.Option.{slice_get-map}
use Rattle.tar.proofs.OneReading.{one_list}
use Rattle.tar.specs.Archives.{Holds}
use Rattle.tar.specs.Entries.{Member, member_of, nothing_said}
use Rattle.tar.specs.Places.{entry_at, IsIndexOf}
use Rattle.tar.specs.declared.index.Place.{Place}
use Rattle.tar_folder.specs.Folders.{is_hard_link, is_whole_file, of_earlier, of_file, place_of}
use Rattle.tar_folder.specs.Marks.{extents, placed}
use Rattle.tar_folder.specs.Paths.{entry_path, normal}
use Rattle.tar_folder.specs.Plain.{fault_at, findings_from, findings_in, form_fault, link_fault, path_fault, told, unless_some}
use Rattle.tar_folder.specs.declared.extent.Extent.{Extent}
use Rattle.tar_folder.specs.declared.finding.EntryFault.{EntryFault}
use Rattle.tar_folder.specs.declared.finding.EntryFault.TheVariants as fault
use Rattle.tar_folder.specs.declared.finding.EntryFinding.{EntryFinding}
use Rattle.oci_saved.specs.Entries.{is_followed, is_link_fault, is_refused, refused_in}
use Rattle.oci_saved.specs.Files.{files_at}
use Rattle.oci_saved.specs.Links.{content_at}
use Rattle.oci_saved.proofs.Found.{place_alike}

module _ (bytes : List ℕ) (places : List Place) where
  abbrev whole : List (Member × List ℕ)
  whole = map (entry_at bytes) places

  path_same : (o : Option (List ℕ)) → path_fault whole o ≡ path_fault (extents places) o
  path_same None = refl
  path_same (Some path) = ap (λ (p : Option ℕ). if is_none p then Some fault.Twice else None) (place_alike bytes places path)

  file_same : (o : Option Place) → unless_some (option_and_then of_file (option_map (entry_at bytes) o)) ≡ unless_some (option_and_then of_file (option_map placed o))
  file_same None = refl
  file_same (Some p) = go (is_whole_file (member_of p.entry))
    where
      go : (b : Bool) → unless_some (if b then Some (entry_at bytes p).1 else None) ≡ unless_some (if b then Some (placed p).1 else None)
      go true = refl
      go false = refl

  earlier_same : (i j : ℕ) → unless_some (of_earlier whole i j) ≡ unless_some (of_earlier (extents places) i j)
  earlier_same i j = go (nat_lt j i)
    where
      go : (b : Bool) → unless_some (if b then option_and_then of_file (slice_get whole j) else None) ≡ unless_some (if b then option_and_then of_file (slice_get (extents places) j) else None)
      go true =
          ap (λ (o : Option (Member × List ℕ)). unless_some (option_and_then of_file o)) (slice_get-map (entry_at bytes) places j) ∙ file_same (slice_get places j)
          ∙ sym (ap (λ (o : Option (Member × Extent)). unless_some (option_and_then of_file o)) (slice_get-map placed places j))
      go false = refl

  linked_same : (i : ℕ) (o : Option (List ℕ))
      → unless_some (option_and_then (of_earlier whole i) (option_and_then (place_of whole) o)) ≡ unless_some (option_and_then (of_earlier (extents places) i) (option_and_then (place_of (extents places)) o))
  linked_same i None = refl
  linked_same i (Some path) = ap (λ (p : Option ℕ). unless_some (option_and_then (of_earlier whole i) p)) (place_alike bytes places path) ∙ go (place_of (extents places) path)
    where
      go : (p : Option ℕ) → unless_some (option_and_then (of_earlier whole i) p) ≡ unless_some (option_and_then (of_earlier (extents places) i) p)
      go None = refl
      go (Some j) = earlier_same i j

  link_same : (i : ℕ) (m : Member) → link_fault whole i m ≡ link_fault (extents places) i m
  link_same i m = ap (λ (f : Option EntryFault). if is_hard_link m.kind then f else None) (linked_same i (normal m.link))

  fault_same : (i : ℕ) (m : Member) → fault_at whole i m ≡ fault_at (extents places) i m
  fault_same i m =
      ap (λ (f : Option EntryFault). option_or f (option_or (form_fault m) (link_fault whole i m))) (path_same (entry_path m))
      ∙ ap (λ (f : Option EntryFault). option_or (path_fault (extents places) (entry_path m)) (option_or (form_fault m) f)) (link_same i m)

  from_same : (i : ℕ) (ps : List Place) → findings_from whole i (map (entry_at bytes) ps) ≡ findings_from (extents places) i (map placed ps)
  from_same i [] = refl
  from_same i (p ∷ ps) =
      ap (λ (f : Option EntryFault). told i f ++ findings_from whole (i + 1) (map (entry_at bytes) ps)) (fault_same i (member_of p.entry))
      ∙ ap (λ (l : List EntryFinding). told i (fault_at (extents places) i (member_of p.entry)) ++ l) (from_same (i + 1) ps)

  followed_same : (o : Option Place) → is_followed (option_map (entry_at bytes) o) ≡ is_followed (option_map placed o)
  followed_same None = refl
  followed_same (Some p) = refl

  refused_same : (f : EntryFinding) → is_refused whole f ≡ is_refused (extents places) f
  refused_same f =
      ap (λ (b : Bool). not (is_link_fault f.fault && b))
      (ap (λ (o : Option (Member × List ℕ)). is_followed o) (slice_get-map (entry_at bytes) places f.place) ∙ followed_same (slice_get places f.place)
      ∙ sym (ap (λ (o : Option (Member × Extent)). is_followed o) (slice_get-map placed places f.place)))

  filter_same : (fs : List EntryFinding) → filter (is_refused whole) fs ≡ filter (is_refused (extents places)) fs
  filter_same [] = refl
  filter_same (f ∷ fs) =
      ap (λ (b : Bool). cond b (f ∷ filter (is_refused whole) fs) (filter (is_refused whole) fs)) (refused_same f)
      ∙ ap (λ (l : List EntryFinding). cond (is_refused (extents places) f) (f ∷ l) l) (filter_same fs)

  pub refused_alike : refused_in whole ≡ refused_in (extents places)
  refused_alike = filter_same (findings_in whole) ∙ ap (filter (is_refused (extents places))) (from_same 0 places)

-- ---- by an index

pub files_denoted : (bytes : List ℕ) (es : List (Member × List ℕ)) (places : List Place) → Holds nothing_said bytes es → IsIndexOf bytes places → files_at places (Some bytes) ≡ Some (content_at es)
files_denoted bytes es places held index = ap (λ (l : List (Member × List ℕ)). Some (content_at l)) (one_list index held)

pub refused_denoted : (bytes : List ℕ) (es : List (Member × List ℕ)) (places : List Place) → Holds nothing_said bytes es → IsIndexOf bytes places → refused_in (extents places) ≡ refused_in es
refused_denoted bytes es places held index = sym (refused_alike bytes places) ∙ ap (λ (l : List (Member × List ℕ)). refused_in l) (one_list index held)
