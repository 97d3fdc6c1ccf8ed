-- Which entries of a layer keep which rules.
use Rattle.std.specs.Prelude.{◌≡◌, ℕ, zero, suc, List, [], ◌∷◌, ◌++◌, codes, map, length, take, slice_index, bytes_eq, Bool, true, false, not, ◌&&◌, ◌||◌, ◌==◌, is_some, if◌then◌else◌, Option, String, option_map, string_bytes}
use Rattle.std.specs.declared.alloc.Global.{Global}
use Rattle.std.specs.BTreeSet.{BTreeSet, contains_text}
use Rattle.std.specs.List.{list_any}
use Rattle.oci_rules.specs.Decided.{if_any, there_and, begins_with}
use Rattle.tar.specs.Entries.{Member, is_file, member_of}
use Rattle.tar.specs.declared.entry.Kind.{Kind as EntryKind}
use Rattle.tar.specs.declared.entry.Kind.TheVariants as kind
use Rattle.tar.specs.declared.index.Place.{Place}
use Rattle.tar_folder.specs.Folders.{is_hard_link}
use Rattle.tar_folder.specs.Paths.{leads_out, normal, entry_path, is_directory}
use Rattle.oci_layers.specs.Names.{base_of, mark, opaque_name, IsNameOf}
use Rattle.oci_layers.specs.Rules.{directory_path, other_path, hidden_path, whiteout_folder, sibling_folder}
use Rattle.oci_layers.specs.Tails.{IsTailOf}
use Rattle.oci_layers.specs.declared.broken.LayerFinding.{LayerFinding}
use Rattle.oci_layers.specs.declared.facts.Facts.{Facts}
use Rattle.oci_layers.specs.declared.rule.LayerRule.{LayerRule}
use Rattle.oci_layers.specs.declared.rule.LayerRule.TheVariants.{Kind, Sparse, PathOnce, PathUnderLink, PathInside, LinkInside, HardLinkInside, HardLinkKind, WhiteoutEmpty, WhiteoutName, WhiteoutReserved, WhiteoutFirst, WhiteoutSibling, Opaque}
use Rattle.oci_layers.specs.declared.seen.Seen.{Seen}

abbrev pub is_known_kind : EntryKind → Bool
is_known_kind (kind.Other flag) = false
is_known_kind _ = true

abbrev pub is_sparse_kind : EntryKind → Bool
is_sparse_kind kind.Sparse = true
is_sparse_kind _ = false

-- one of the entries has this path
abbrev pub is_among : (Member → Option (List ℕ)) → List Member → List ℕ → Bool
is_among path_of before path = list_any (λ d. there_and (bytes_eq path) (path_of d)) before

-- of the folders above a path that end before its first n bytes do, none passes
abbrev pub are_clear : (List ℕ → Bool) → List ℕ → ℕ → Bool
are_clear test path zero = true
are_clear test path (suc n) = not ((slice_index path n == 47) && test (take n path)) && are_clear test path n

-- nor does any folder above it
abbrev pub is_clear : (List ℕ → Bool) → List ℕ → Bool
is_clear test path = are_clear test path (length path)

abbrev pub is_empty_whiteout : EntryKind → ℕ → List ℕ → Bool
is_empty_whiteout k size base = not (begins_with mark base) || (is_file k && (size == 0))

abbrev pub hides_name : List ℕ → Bool
hides_name base = not (bytes_eq base mark) && (not (bytes_eq base (mark ++ codes ".")) && not (bytes_eq base (mark ++ codes "..")))

abbrev pub is_unreserved : List ℕ → Bool
is_unreserved base = not (begins_with (mark ++ mark) base) || bytes_eq base opaque_name

abbrev pub keeps : LayerRule → List Member → Member → Bool
keeps Kind before m = is_known_kind m.kind
keeps Sparse before m = not m.sparse && not (is_sparse_kind m.kind)
keeps PathOnce before m = if_any (λ path. not (is_among entry_path before path)) (entry_path m)
keeps PathUnderLink before m = if_any (is_clear (is_among other_path before)) (entry_path m)
keeps PathInside before m = not (leads_out m.name) && (is_some (base_of m.name) || is_directory m.kind)
keeps LinkInside before m = not (is_hard_link m.kind) || (not (leads_out m.link) && is_some (base_of m.link))
keeps HardLinkInside before m = not (is_hard_link m.kind) || if_any (is_among entry_path before) (normal m.link)
keeps HardLinkKind before m = not (is_hard_link m.kind) || if_any (λ path. not (is_among directory_path before path)) (normal m.link)
keeps WhiteoutEmpty before m = if_any (is_empty_whiteout m.kind m.size) (base_of m.name)
keeps WhiteoutName before m = if_any hides_name (base_of m.name)
keeps WhiteoutReserved before m = if_any is_unreserved (base_of m.name)
keeps WhiteoutFirst before m = if_any (λ folder. not (is_among sibling_folder before folder)) (whiteout_folder m)
keeps WhiteoutSibling before m = if_any (λ path. not (is_among entry_path before path)) (hidden_path m) && if_any (λ path. not (is_among hidden_path before path)) (entry_path m)
keeps Opaque before m = if_any (λ base. not (bytes_eq base opaque_name)) (base_of m.name)

-- the set has the paths of these entries
abbrev pub HasPaths : BTreeSet (String Global) → (Member → Option (List ℕ)) → List Member → Type 0
HasPaths set path_of before = (path : List ℕ) → contains_text set path ≡ is_among path_of before path

pub record HasSeen (s : Seen) (before : List Member) : Type 0 where
  pub directories : HasPaths s.directories directory_path before
  pub others : HasPaths s.others other_path before
  pub hidden : HasPaths s.hidden hidden_path before
  pub folders : HasPaths s.folders sibling_folder before

-- what is known of an entry
pub record AreFactsOf (f : Facts) (m : Member) : Type 0 where
  pub name : IsNameOf f.name m.name
  pub link : IsNameOf f.link m.link
  pub path : option_map string_bytes f.path ≡ entry_path m
  pub tail : IsTailOf f.tail (entry_path m)
  pub target : option_map string_bytes f.target ≡ normal m.link

-- ---- what is found

abbrev pub every : List LayerRule
every = Kind ∷ Sparse ∷ PathOnce ∷ PathUnderLink ∷ PathInside ∷ LinkInside ∷ HardLinkInside ∷ HardLinkKind ∷ WhiteoutEmpty ∷ WhiteoutName ∷ WhiteoutReserved ∷ WhiteoutFirst ∷ WhiteoutSibling ∷ Opaque ∷ []

abbrev pub unless : Bool → ℕ → LayerRule → List LayerFinding
unless kept place rule = if kept then [] else record { place = place; rule = rule } ∷ []

-- of an entry, behind these
abbrev pub told_each : List LayerRule → List Member → Member → List LayerFinding
told_each [] before m = []
told_each (r ∷ rs) before m = unless (keeps r before m) (length before) r ++ told_each rs before m

-- of the entries that follow these
abbrev pub findings_behind : List Member → List Member → List LayerFinding
findings_behind before [] = []
findings_behind before (m ∷ rest) = told_each every before m ++ findings_behind (before ++ m ∷ []) rest

-- the entries at these places
abbrev pub members : List Place → List Member
members places = map (λ p. member_of p.entry) places
