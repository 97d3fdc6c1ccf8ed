-- What is read by an index is what an archive denotes, and what lies in a folder.
use Rattle.std.proofs.Common.{◌≡◌, ℕ, List, map, Option, Some, refl, sym, ap, ◌∙◌, subst}
use Rattle.std.specs.Prelude.{◌↔◌}
use Rattle.std.specs.List.{Contains}
use Rattle.std.proofs.Math.Path.{fun_ext}
use Rattle.tar.specs.Archives.{Holds}
use Rattle.tar.specs.Entries.{Member, nothing_said}
use Rattle.tar.specs.Places.{entry_at, IsIndexOf}
use Rattle.tar.specs.declared.index.Place.{Place}
use Rattle.tar.proofs.OneReading.{one_list}
use Rattle.tar_folder.specs.Folders.{file_at}
use Rattle.tar_folder.specs.Marks.{extents, bytes_at}
use Rattle.tar_folder.proofs.Elements.{in_map, map_in}
use Rattle.tar_folder.proofs.Natural.{one, each, entries_are}
use Rattle.oci_layout.specs.Marker.{HasMarker}
use Rattle.oci_layout.specs.Sound.{IsSoundBy}
use Rattle.oci_archive.specs.Layouts.{blob_path_of, contents_at, contents_in, tops_at, tops_in, name_of, names_in, IsUnpacked, blobs_of}

-- ---- by an index

pub same_contents : (bytes : List ℕ) (es : List (Member × List ℕ)) (places : List Place) → Holds nothing_said bytes es → IsIndexOf bytes places → contents_at places (Some bytes) ≡ Some (contents_in es)
same_contents bytes es places held index = ap (λ (l : List (Member × List ℕ)). Some (contents_in l)) (one_list index held)

pub same_tops : (bytes : List ℕ) (es : List (Member × List ℕ)) (places : List Place) → Holds nothing_said bytes es → IsIndexOf bytes places → tops_at places (Some bytes) ≡ Some (tops_in es)
same_tops bytes es places held index = ap (λ (l : List (Member × List ℕ)). Some (tops_in l)) (one_list index held)

names_each : {X Y : Type 0} (f : X → Y) (es : List (Member × X)) (path : List ℕ) → names_in es path ↔ names_in (each f es) path
names_each {X} {Y} f es path = (there, back)
  where
    there : names_in es path → names_in (each f es) path
    there (e, held, is) = (one f e, map_in (one f) es e held, is)

    back : names_in (each f es) path → names_in es path
    back (m, held, is) =
        let (e, found, same) = in_map (one f) es m held in
        (e, found, ap (λ (z : Member × Y). name_of z.0) same ∙ is)

pub same_names : (bytes : List ℕ) (es : List (Member × List ℕ)) (places : List Place) → Holds nothing_said bytes es → IsIndexOf bytes places → (path : List ℕ) → names_in (extents places) path ↔ names_in es path
same_names bytes es places held index path =
    subst (λ (l : List (Member × List ℕ)). names_in (extents places) path ↔ names_in l path) (sym (entries_are bytes places) ∙ one_list index held) (names_each (bytes_at bytes) (extents places) path)

-- ---- in a folder

tops_are : (files : List ℕ → Option (List ℕ)) (es : List (Member × List ℕ)) → IsUnpacked files es → files ≡ tops_in es
tops_are files es h = fun_ext h

blobs_are : (files : List ℕ → Option (List ℕ)) (es : List (Member × List ℕ)) → IsUnpacked files es → blobs_of files ≡ contents_in es
blobs_are files es h = fun_ext (λ digest. h (blob_path_of digest))

pub unpacked_marker : (limit : ℕ) (es : List (Member × List ℕ)) (files : List ℕ → Option (List ℕ)) → IsUnpacked files es → HasMarker limit files ↔ HasMarker limit (tops_in es)
unpacked_marker limit es files h = ((λ m. subst (HasMarker limit) (tops_are files es h) m), (λ m. subst (HasMarker limit) (sym (tops_are files es h)) m))

sound_as : (limit : ℕ) (t u c d : List ℕ → Option (List ℕ)) → t ≡ u → c ≡ d → IsSoundBy limit t c → IsSoundBy limit u d
sound_as limit t u c d tops contents h = subst (λ x. IsSoundBy limit x d) tops (subst (λ x. IsSoundBy limit t x) contents h)

pub unpacked_sound : (limit : ℕ) (es : List (Member × List ℕ)) (files : List ℕ → Option (List ℕ)) → IsUnpacked files es → IsSoundBy limit files (blobs_of files) ↔ IsSoundBy limit (tops_in es) (contents_in es)
unpacked_sound limit es files h = (
  (λ s. sound_as limit files (tops_in es) (blobs_of files) (contents_in es) (tops_are files es h) (blobs_are files es h) s),
  (λ s. sound_as limit (tops_in es) files (contents_in es) (blobs_of files) (sym (tops_are files es h)) (sym (blobs_are files es h)) s),
)
