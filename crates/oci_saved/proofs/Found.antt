-- What is found at a path by an index is what the entries denote.
use Rattle.std.proofs.Common.{◌≡◌, ℕ, Bool, true, false, List, map, Option, Some, None, option_map, Result, Ok, Err, IfOk, IfSome, refl, sym, ap, ◌∙◌}
use Rattle.std.specs.Prelude.{slice_get, option_and_then, if◌then◌else◌}
use Rattle.std.specs.Option.{option_or}
use Rattle.std.proofs.lemmas.Option.{slice_get-map}
use Rattle.std.proofs.lemmas.Simd.{map-map}
use Rattle.tar.specs.Entries.{Member}
use Rattle.tar.specs.Places.{entry_at}
use Rattle.tar.specs.declared.index.Place.{Place}
use Rattle.tar_folder.proofs.Natural.{at_path}
use Rattle.tar_folder.specs.Folders.{places_of, only, place_of, file_at}
use Rattle.tar_folder.specs.Marks.{placed, extents, bytes_at}
use Rattle.tar_folder.specs.Paths.{entry_path}
use Rattle.tar_folder.specs.declared.extent.Extent.{Extent}
use Rattle.oci_layout.proofs.Tops.{top_read}
use Rattle.oci_layout.specs.Sound.{IsTop, IsReadOf}
use Rattle.oci_layout.specs.declared.top.Top.{Top}
use Rattle.oci_layout.specs.declared.top.Top.TheVariants as top
use Rattle.oci_saved.specs.Files.{files_at, IsJudged, IsJudgedOf}
use Rattle.oci_saved.specs.Links.{content_at, is_symbolic_link, linked_at, member_at, of_link, target_of}
use Rattle.oci_saved.specs.declared.files.Judged.{Judged}
use Rattle.oci_saved.specs.declared.files.Judged.TheVariants as judged

-- ---- by where contents lie, and by contents

pub place_alike : (bytes : List ℕ) (places : List Place) (path : List ℕ) → place_of (map (entry_at bytes) places) path ≡ place_of (extents places) path
place_alike bytes places path = ap (λ (ps : List (Option (List ℕ))). only (places_of path 0 ps)) (map-map (λ e. entry_path e.0) (entry_at bytes) places ∙ sym (map-map (λ e. entry_path e.0) placed places))

member_got : (bytes : List ℕ) (places : List Place) (o : Option ℕ)
    → option_map (λ (e : Member × List ℕ). e.0) (option_and_then (slice_get (map (entry_at bytes) places)) o) ≡ option_map (λ (e : Member × Extent). e.0) (option_and_then (slice_get (extents places)) o)
member_got bytes places None = refl
member_got bytes places (Some i) =
    ap (option_map (λ (e : Member × List ℕ). e.0)) (slice_get-map (entry_at bytes) places i) ∙ go (slice_get places i) ∙ sym (ap (option_map (λ (e : Member × Extent). e.0)) (slice_get-map placed places i))
  where
    go : (o : Option Place) → option_map (λ (e : Member × List ℕ). e.0) (option_map (entry_at bytes) o) ≡ option_map (λ (e : Member × Extent). e.0) (option_map placed o)
    go None = refl
    go (Some p) = refl

member_alike : (bytes : List ℕ) (places : List Place) (path : List ℕ) → member_at (map (entry_at bytes) places) path ≡ member_at (extents places) path
member_alike bytes places path =
    ap (λ (o : Option ℕ). option_map (λ (e : Member × List ℕ). e.0) (option_and_then (slice_get (map (entry_at bytes) places)) o)) (place_alike bytes places path)
    ∙ member_got bytes places (place_of (extents places) path)

link_alike : (bytes : List ℕ) (places : List Place) (path : List ℕ) (m : Member) → of_link (map (entry_at bytes) places) path m ≡ option_map (bytes_at bytes) (of_link (extents places) path m)
link_alike bytes places path m = go (is_symbolic_link m.kind)
  where
    along : (o : Option (List ℕ)) → option_and_then (file_at (map (entry_at bytes) places)) o ≡ option_map (bytes_at bytes) (option_and_then (file_at (extents places)) o)
    along None = refl
    along (Some target) = at_path bytes places target

    go : (b : Bool) → ◌≡◌ {A = Option (List ℕ)} (if b then option_and_then (file_at (map (entry_at bytes) places)) (target_of path m.link) else None)
        (option_map (bytes_at bytes) (if b then option_and_then (file_at (extents places)) (target_of path m.link) else None))
    go true = along (target_of path m.link)
    go false = refl

linked_alike : (bytes : List ℕ) (places : List Place) (path : List ℕ) → linked_at (map (entry_at bytes) places) path ≡ option_map (bytes_at bytes) (linked_at (extents places) path)
linked_alike bytes places path = ap (option_and_then (of_link (map (entry_at bytes) places) path)) (member_alike bytes places path) ∙ go (member_at (extents places) path)
  where
    go : (o : Option Member) → option_and_then (of_link (map (entry_at bytes) places) path) o ≡ option_map (bytes_at bytes) (option_and_then (of_link (extents places) path) o)
    go None = refl
    go (Some m) = link_alike bytes places path m

pub content_alike : (bytes : List ℕ) (places : List Place) (path : List ℕ) → content_at (map (entry_at bytes) places) path ≡ option_map (bytes_at bytes) (content_at (extents places) path)
content_alike bytes places path =
    ap (λ (o : Option (List ℕ)). option_or o (linked_at (map (entry_at bytes) places) path)) (at_path bytes places path)
    ∙ ap (λ (o : Option (List ℕ)). option_or (option_map (bytes_at bytes) (file_at (extents places) path)) o) (linked_alike bytes places path)
    ∙ go (file_at (extents places) path)
  where
    go : (o : Option Extent) → option_or (option_map (bytes_at bytes) o) (option_map (bytes_at bytes) (linked_at (extents places) path)) ≡ option_map (bytes_at bytes) (option_or o (linked_at (extents places) path))
    go None = refl
    go (Some x) = refl

-- the content of what is found
found : (bytes : List ℕ) (places : List Place) (path : List ℕ) (o : Option Extent) → o ≡ content_at (extents places) path → content_at (map (entry_at bytes) places) path ≡ option_map (bytes_at bytes) o
found bytes places path o e = content_alike bytes places path ∙ ap (option_map (bytes_at bytes)) (sym e)

-- ---- what is read, and what is judged

pub missing_top : (limit : ℕ) (steady : Bool) (places : List Place) (known : Option (List ℕ)) (path : List ℕ) → None ≡ content_at (extents places) path
    → IsTop limit steady (files_at places known) path top.Missing
missing_top limit steady places None path e = tt
missing_top limit steady places (Some bytes) path e = found bytes places path None e

pub read_top : {E : Type 0} (limit : ℕ) (steady : Bool) (places : List Place) (known : Option (List ℕ)) (path : List ℕ) (x : Extent) (r : Result Top E) → Some x ≡ content_at (extents places) path
    → IfOk r (λ t. IfSome known (λ bytes. IsReadOf limit steady (bytes_at bytes x) t)) → IfOk r (IsTop limit steady (files_at places known) path)
read_top limit steady places known path x (Err e) is h = tt
read_top limit steady places None path x (Ok t) is h = tt
read_top {E} limit steady places (Some bytes) path x (Ok t) is h =
    top_read {B = List ℕ} {E = E} (λ b. Some b) limit steady (files_at places (Some bytes)) path (bytes_at bytes x) None (Ok t) (bytes_at bytes x, refl, found bytes places path (Some x) is, tt) h

pub missing_judged : (steady : Bool) (places : List Place) (known : Option (List ℕ)) (path digest : List ℕ) → None ≡ content_at (extents places) path
    → IsJudged steady (files_at places known) path digest judged.Missing
missing_judged steady places None path digest e = tt
missing_judged steady places (Some bytes) path digest e = found bytes places path None e

pub judged_there : (steady : Bool) (places : List Place) (known : Option (List ℕ)) (path digest : List ℕ) (x : Extent) (j : Judged) → Some x ≡ content_at (extents places) path
    → IfSome known (λ bytes. IsJudgedOf steady digest (bytes_at bytes x) j) → IsJudged steady (files_at places known) path digest j
judged_there steady places None path digest x j is h = tt
judged_there steady places (Some bytes) path digest x judged.Missing is h = absurd h
judged_there steady places (Some bytes) path digest x (judged.Unreadable why) is h = h
judged_there steady places (Some bytes) path digest x (judged.Content v) is h = (bytes_at bytes x, found bytes places path (Some x) is, h)
