-- An entry keeps a rule exactly if it is found to.
use Rattle.std.proofs.Common.{◌≡◌, ℕ, List, ◌∷◌, ◌++◌, codes, bytes_eq, Bool, true, false, not, ◌&&◌, ◌||◌, Option, Some, None, is_some, refl, sym, ap, ◌∙◌, subst, length, take, drop, get_or, ◌+◌, ◌<◌, add-one, drop-cons, take-append-drop, length-append, arith}
use Rattle.std.specs.Prelude.{◌==◌, ◌≢◌, slice_index}
use Rattle.std.specs.Bool.{Decides}
use Rattle.std.proofs.lemmas.Bool.Decides.{Decides-and, Decides-not, Decides-like, Decides-eqb, Decides-below_and}
use Rattle.std.proofs.lemmas.List.Folds.{Any-from_list_any, list_any-from_Any}
use Rattle.std.proofs.lemmas.Slice.Eq.{bytes_eq-Decides}
use Rattle.std.proofs.Math.Seq.{get_or-append_seam, take-append_seam}
use Rattle.oci_rules.specs.Decided.{if_any, there_and, begins_with}
use Rattle.oci_rules.specs.Tests.{BeginsWith}
use Rattle.oci_rules.proofs.Deciding.{clash, if_any_tells, itself, begins_tells, text_tells, then_tells}
use Rattle.tar.specs.Entries.{Member, is_file}
use Rattle.tar.specs.declared.entry.Kind.{Kind as EntryKind}
use Rattle.tar.specs.declared.entry.Kind.TheVariants as kind
use Rattle.tar_folder.specs.Folders.{is_hard_link}
use Rattle.tar_folder.specs.Paths.{leads_out, normal, entry_path, is_directory}
use Rattle.oci_layers.specs.Decided.{keeps, is_known_kind, is_sparse_kind, is_among, are_clear, is_clear, is_empty_whiteout, hides_name, is_unreserved}
use Rattle.oci_layers.specs.Names.{base_of, mark, opaque_name}
use Rattle.oci_layers.specs.Rules.{IsKnownKind, IsAbove, IsAmong, Keeps, directory_path, other_path, hidden_path, whiteout_folder, sibling_folder}
use Rattle.oci_layers.specs.declared.rule.LayerRule.{LayerRule}
use Rattle.oci_layers.specs.declared.rule.LayerRule.TheVariants.{Kind, Sparse, PathOnce, PathUnderLink, PathInside, LinkInside, HardLinkInside, HardLinkKind, WhiteoutEmpty, WhiteoutName, WhiteoutReserved, WhiteoutFirst, WhiteoutSibling, Opaque}

-- ---- kinds

known_tells : (k : EntryKind) → Decides (is_known_kind k) (IsKnownKind k)
known_tells kind.File = (λ e. tt, λ h. refl)
known_tells kind.HardLink = (λ e. tt, λ h. refl)
known_tells kind.SymbolicLink = (λ e. tt, λ h. refl)
known_tells kind.CharacterDevice = (λ e. tt, λ h. refl)
known_tells kind.BlockDevice = (λ e. tt, λ h. refl)
known_tells kind.Directory = (λ e. tt, λ h. refl)
known_tells kind.Fifo = (λ e. tt, λ h. refl)
known_tells kind.Sparse = (λ e. tt, λ h. refl)
known_tells (kind.Other flag) = (λ e. clash e, λ h. absurd h)

sparse_tells : (k : EntryKind) → Decides (is_sparse_kind k) (k ≡ kind.Sparse)
sparse_tells kind.File = (λ e. clash e, λ h. cc h)
sparse_tells kind.HardLink = (λ e. clash e, λ h. cc h)
sparse_tells kind.SymbolicLink = (λ e. clash e, λ h. cc h)
sparse_tells kind.CharacterDevice = (λ e. clash e, λ h. cc h)
sparse_tells kind.BlockDevice = (λ e. clash e, λ h. cc h)
sparse_tells kind.Directory = (λ e. clash e, λ h. cc h)
sparse_tells kind.Fifo = (λ e. clash e, λ h. cc h)
sparse_tells kind.Sparse = (λ e. refl, λ h. refl)
sparse_tells (kind.Other flag) = (λ e. clash e, λ h. cc h)

file_tells : (k : EntryKind) → Decides (is_file k) (k ≡ kind.File)
file_tells kind.File = (λ e. refl, λ h. refl)
file_tells kind.HardLink = (λ e. clash e, λ h. cc h)
file_tells kind.SymbolicLink = (λ e. clash e, λ h. cc h)
file_tells kind.CharacterDevice = (λ e. clash e, λ h. cc h)
file_tells kind.BlockDevice = (λ e. clash e, λ h. cc h)
file_tells kind.Directory = (λ e. clash e, λ h. cc h)
file_tells kind.Fifo = (λ e. clash e, λ h. cc h)
file_tells kind.Sparse = (λ e. clash e, λ h. cc h)
file_tells (kind.Other flag) = (λ e. clash e, λ h. cc h)

link_tells : (k : EntryKind) → Decides (is_hard_link k) (k ≡ kind.HardLink)
link_tells kind.File = (λ e. clash e, λ h. cc h)
link_tells kind.HardLink = (λ e. refl, λ h. refl)
link_tells kind.SymbolicLink = (λ e. clash e, λ h. cc h)
link_tells kind.CharacterDevice = (λ e. clash e, λ h. cc h)
link_tells kind.BlockDevice = (λ e. clash e, λ h. cc h)
link_tells kind.Directory = (λ e. clash e, λ h. cc h)
link_tells kind.Fifo = (λ e. clash e, λ h. cc h)
link_tells kind.Sparse = (λ e. clash e, λ h. cc h)
link_tells (kind.Other flag) = (λ e. clash e, λ h. cc h)

folder_tells : (k : EntryKind) → Decides (is_directory k) (k ≡ kind.Directory)
folder_tells kind.File = (λ e. clash e, λ h. cc h)
folder_tells kind.HardLink = (λ e. clash e, λ h. cc h)
folder_tells kind.SymbolicLink = (λ e. clash e, λ h. cc h)
folder_tells kind.CharacterDevice = (λ e. clash e, λ h. cc h)
folder_tells kind.BlockDevice = (λ e. clash e, λ h. cc h)
folder_tells kind.Directory = (λ e. refl, λ h. refl)
folder_tells kind.Fifo = (λ e. clash e, λ h. cc h)
folder_tells kind.Sparse = (λ e. clash e, λ h. cc h)
folder_tells (kind.Other flag) = (λ e. clash e, λ h. cc h)

-- ---- parts of rules

off_tells : (b : Bool) → Decides (not b) (b ≡ false)
off_tells true = (λ e. clash e, λ h. clash (sym h))
off_tells false = (λ e. refl, λ h. refl)

else_tells : {A : Type 0} (o : Option A) (b : Bool) (P : Type 0) → Decides b P → Decides (is_some o || b) (o ≡ None → P)
else_tells None b P is = (λ e h. is.0 e, λ h. is.1 (h refl))
else_tells (Some x) b P is = (λ e h. cc h, λ h. refl)

other_tells : (s t : List ℕ) → Decides (not (bytes_eq s t)) (s ≢ t)
other_tells s t = Decides-not (bytes_eq s t) (bytes_eq-Decides s t)

among_tells : (path_of : Member → Option (List ℕ)) (before : List Member) (path : List ℕ) → Decides (is_among path_of before path) (IsAmong path_of before path)
among_tells path_of before path = (
  λ e. let (k, d, less, at, is) = Any-from_list_any (λ d. there_and (bytes_eq path) (path_of d)) before e in (d, (k, less, at), (text_tells path (path_of d)).0 is),
  λ (d, (k, less, at), is). list_any-from_Any (λ d. there_and (bytes_eq path) (path_of d)) before (k, d, less, at, (text_tells path (path_of d)).1 is),
)

not_among_tells : (path_of : Member → Option (List ℕ)) (before : List Member) (path : List ℕ) → Decides (not (is_among path_of before path)) (¬ IsAmong path_of before path)
not_among_tells path_of before path = Decides-not (is_among path_of before path) (among_tells path_of before path)

clear_below : (test : List ℕ → Bool) (P : List ℕ → Type 0) → ((t : List ℕ) → Decides (test t) (P t)) → (path : List ℕ)
    → Decides (is_clear test path) ((n : ℕ) → n < length path → ¬ ((slice_index path n ≡ 47) × P (take n path)))
clear_below test P is path =
    Decides-below_and (λ n. not ((slice_index path n == 47) && test (take n path))) (λ n. ¬ ((slice_index path n ≡ 47) × P (take n path))) (are_clear test path)
    (λ n. Decides-not ((slice_index path n == 47) && test (take n path)) (Decides-and (slice_index path n == 47) (test (take n path)) (Decides-eqb (slice_index path n) 47) (is (take n path))))
    refl (λ n. refl) (length path)

-- a slash ends the path of each folder above
clear_tells : (test : List ℕ → Bool) (P : List ℕ → Type 0) → ((t : List ℕ) → Decides (test t) (P t)) → (path : List ℕ)
    → Decides (is_clear test path) ((folder : List ℕ) → IsAbove folder path → ¬ P folder)
clear_tells test P is path = Decides-like (is_clear test path) from into (clear_below test P is path)
  where
    from : ((n : ℕ) → n < length path → ¬ ((slice_index path n ≡ 47) × P (take n path))) → (folder : List ℕ) → IsAbove folder path → ¬ P folder
    from h folder (rest, e) p =
        let short : length folder < length path = omega (arith, ap length e, length-append folder (47 ∷ rest)) in
        let slash : slice_index path (length folder) ≡ 47 = ap (λ (t : List ℕ). slice_index t (length folder)) e ∙ get_or-append_seam folder 47 rest 0 in
        let front : take (length folder) path ≡ folder = ap (take (length folder)) e ∙ take-append_seam folder (47 ∷ rest) in
        h (length folder) short (slash, subst P (sym front) p)

    into : ((folder : List ℕ) → IsAbove folder path → ¬ P folder) → (n : ℕ) → n < length path → ¬ ((slice_index path n ≡ 47) × P (take n path))
    into h n short (slash, p) =
        let cut : drop n path ≡ get_or path n 0 ∷ drop (n + 1) path = rw (add-one, drop-cons path n 0) refl in
        let whole : path ≡ take n path ++ 47 ∷ drop (n + 1) path =
        sym (take-append-drop n path) ∙ ap (λ (t : List ℕ). take n path ++ t) cut ∙ ap (λ (b : ℕ). take n path ++ b ∷ drop (n + 1) path) slash in
        h (take n path) (drop (n + 1) path, whole) p

empty_tells : (k : EntryKind) (size : ℕ) (base : List ℕ) → Decides (is_empty_whiteout k size base) (BeginsWith mark base → (k ≡ kind.File) × (size ≡ 0))
empty_tells k size base =
    then_tells (begins_with mark base) (is_file k && (size == 0)) (BeginsWith mark base) ((k ≡ kind.File) × (size ≡ 0))
    (begins_tells mark base) (Decides-and (is_file k) (size == 0) (file_tells k) (Decides-eqb size 0))

hides_tells : (base : List ℕ) → Decides (hides_name base) ((base ≢ mark) × ((base ≢ mark ++ codes ".") × (base ≢ mark ++ codes "..")))
hides_tells base =
    Decides-and (not (bytes_eq base mark)) (not (bytes_eq base (mark ++ codes ".")) && not (bytes_eq base (mark ++ codes ".."))) (other_tells base mark)
    (Decides-and (not (bytes_eq base (mark ++ codes "."))) (not (bytes_eq base (mark ++ codes ".."))) (other_tells base (mark ++ codes ".")) (other_tells base (mark ++ codes "..")))

unreserved_tells : (base : List ℕ) → Decides (is_unreserved base) (BeginsWith (mark ++ mark) base → base ≡ opaque_name)
unreserved_tells base =
    then_tells (begins_with (mark ++ mark) base) (bytes_eq base opaque_name) (BeginsWith (mark ++ mark) base) (base ≡ opaque_name) (begins_tells (mark ++ mark) base) (bytes_eq-Decides base opaque_name)

-- ---- rules

pub keeps_tells : (r : LayerRule) (before : List Member) (m : Member) → Decides (keeps r before m) (Keeps r before m)
keeps_tells Kind before m = known_tells m.kind
keeps_tells Sparse before m = Decides-and (not m.sparse) (not (is_sparse_kind m.kind)) (off_tells m.sparse) (Decides-not (is_sparse_kind m.kind) (sparse_tells m.kind))
keeps_tells PathOnce before m = if_any_tells (λ path. not (is_among entry_path before path)) (λ path. ¬ IsAmong entry_path before path) (not_among_tells entry_path before) (entry_path m)
keeps_tells PathUnderLink before m =
    if_any_tells (is_clear (is_among other_path before)) (λ path. (folder : List ℕ) → IsAbove folder path → ¬ IsAmong other_path before folder)
    (clear_tells (is_among other_path before) (IsAmong other_path before) (among_tells other_path before)) (entry_path m)
keeps_tells PathInside before m =
    Decides-and (not (leads_out m.name)) (is_some (base_of m.name) || is_directory m.kind) (off_tells (leads_out m.name))
    (else_tells (base_of m.name) (is_directory m.kind) (m.kind ≡ kind.Directory) (folder_tells m.kind))
keeps_tells LinkInside before m =
    then_tells (is_hard_link m.kind) (not (leads_out m.link) && is_some (base_of m.link)) (m.kind ≡ kind.HardLink) _ (link_tells m.kind)
    (Decides-and (not (leads_out m.link)) (is_some (base_of m.link)) (off_tells (leads_out m.link)) (itself (is_some (base_of m.link))))
keeps_tells HardLinkInside before m =
    then_tells (is_hard_link m.kind) _ (m.kind ≡ kind.HardLink) _ (link_tells m.kind)
    (if_any_tells (is_among entry_path before) (IsAmong entry_path before) (among_tells entry_path before) (normal m.link))
keeps_tells HardLinkKind before m =
    then_tells (is_hard_link m.kind) _ (m.kind ≡ kind.HardLink) _ (link_tells m.kind)
    (if_any_tells (λ path. not (is_among directory_path before path)) (λ path. ¬ IsAmong directory_path before path) (not_among_tells directory_path before) (normal m.link))
keeps_tells WhiteoutEmpty before m =
    if_any_tells (is_empty_whiteout m.kind m.size) (λ base. BeginsWith mark base → (m.kind ≡ kind.File) × (m.size ≡ 0)) (empty_tells m.kind m.size) (base_of m.name)
keeps_tells WhiteoutName before m =
    if_any_tells hides_name (λ base. (base ≢ mark) × ((base ≢ mark ++ codes ".") × (base ≢ mark ++ codes ".."))) hides_tells (base_of m.name)
keeps_tells WhiteoutReserved before m = if_any_tells is_unreserved (λ base. BeginsWith (mark ++ mark) base → base ≡ opaque_name) unreserved_tells (base_of m.name)
keeps_tells WhiteoutFirst before m = if_any_tells (λ folder. not (is_among sibling_folder before folder)) (λ folder. ¬ IsAmong sibling_folder before folder) (not_among_tells sibling_folder before) (whiteout_folder m)
keeps_tells WhiteoutSibling before m =
    Decides-and (if_any (λ path. not (is_among entry_path before path)) (hidden_path m)) (if_any (λ path. not (is_among hidden_path before path)) (entry_path m))
    (if_any_tells (λ path. not (is_among entry_path before path)) (λ path. ¬ IsAmong entry_path before path) (not_among_tells entry_path before) (hidden_path m))
    (if_any_tells (λ path. not (is_among hidden_path before path)) (λ path. ¬ IsAmong hidden_path before path) (not_among_tells hidden_path before) (entry_path m))
keeps_tells Opaque before m = if_any_tells (λ base. not (bytes_eq base opaque_name)) (λ base. base ≢ opaque_name) (λ base. other_tells base opaque_name) (base_of m.name)
