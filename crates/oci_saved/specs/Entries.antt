-- Which entries of an archive that `docker save` wrote are refused, and which archives are right.
use Rattle.std.specs.Prelude.{◌≡◌, ℕ, List, [], slice_get, Bool, true, false, ◌&&◌, not, is_some, Option, Some, None, option_and_then}
use Rattle.std.specs.List.{filter}
use Rattle.tar.specs.Archives.{Holds}
use Rattle.tar.specs.Entries.{Member, nothing_said}
use Rattle.tar_folder.specs.Paths.{entry_path}
use Rattle.tar_folder.specs.Plain.{findings_in}
use Rattle.tar_folder.specs.declared.finding.EntryFault.{EntryFault}
use Rattle.tar_folder.specs.declared.finding.EntryFault.TheVariants.{Link}
use Rattle.tar_folder.specs.declared.finding.EntryFinding.{EntryFinding}
use Rattle.oci_saved.specs.Links.{content_at, is_symbolic_link, target_of}
use Rattle.oci_saved.specs.Saved.{IsSaved}

-- a symbolic link that leads to a place within the folder, whether a file is there or not
abbrev pub leads_within : Member → Bool
leads_within m = is_symbolic_link m.kind && is_some (option_and_then (λ path. target_of path m.link) (entry_path m))

abbrev pub is_link_fault : EntryFault → Bool
is_link_fault Link = true
is_link_fault _ = false

abbrev pub is_followed : {X : Type 0} → Option (Member × X) → Bool
is_followed None = false
is_followed (Some e) = leads_within e.0

-- all that is found of an entry, but that it is such a link
abbrev pub is_refused : {X : Type 0} → List (Member × X) → EntryFinding → Bool
is_refused es f = not (is_link_fault f.fault && is_followed (slice_get es f.place))

-- the entries that are refused
abbrev pub refused_in : {X : Type 0} → List (Member × X) → List EntryFinding
refused_in es = filter (is_refused es) (findings_in es)

-- the bytes are an archive of which no entry is refused, and its files are what `docker save` writes
pub record IsSavedArchive (limit : ℕ) (bytes : List ℕ) : Type 0 where
  pub entries : List (Member × List ℕ)
  pub holds : Holds nothing_said bytes entries
  pub fine : refused_in entries ≡ []
  pub saved : IsSaved limit (content_at entries)
