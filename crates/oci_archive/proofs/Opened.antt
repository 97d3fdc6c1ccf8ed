-- What a layout in an archive gives.
use Rattle.std.proofs.Common.{◌≡◌, ℕ, Bool, false, List, ◌∷◌, ◌++◌, length, map, codes, Option, Some, None, Ok, Err, option_map, refl, sym, ap, ◌∙◌, subst}
use Rattle.std.specs.declared.io.Error.{Error}
use Rattle.oci_base.specs.Classes.{is_lower, is_joint, colon, slash, until, after, IsOneOf, IsSomeOf}
use Rattle.oci_base.specs.Digest.{IsDigest}
use Rattle.oci_base.proofs.Lacks.{lacks_joined, lacks_one, lacks_some}
use Rattle.oci_base.proofs.Marks.{until_is}
use Rattle.oci_layout.specs.Looks.{Gives}
use Rattle.oci_layout.specs.Names.{IsPathOf}
use Rattle.oci_layout.specs.Paths.{path_of}
use Rattle.oci_layout.specs.declared.store.Opened.{Opened}
use Rattle.oci_layout.specs.declared.store.Opened.TheVariants.{Missing, Unreadable, Content}
use Rattle.tar.specs.Places.{entry_at}
use Rattle.tar.specs.declared.index.Place.{Place}
use Rattle.oci_archive.specs.Layouts.{blob_path_of, contents_at, tops_at}
use Rattle.tar_folder.specs.Folders.{file_at}
use Rattle.tar_folder.specs.Marks.{bytes_at, extents}
use Rattle.oci_archive.specs.Sources.{GivesPart}
use Rattle.tar_folder.specs.declared.extent.Extent.{Extent}
use Rattle.tar_folder.proofs.Natural.{at_path}

-- ---- at a path

pub nothing_there : {P : Type 0} (remaining : P → Option (List ℕ)) (steady : Bool) (places : List Place) (known : Option (List ℕ)) (path : List ℕ)
    → None ≡ file_at (extents places) path → Gives remaining steady (tops_at places known) path Missing
nothing_there remaining steady places None path e = tt
nothing_there remaining steady places (Some bytes) path e = at_path bytes places path ∙ ap (option_map (bytes_at bytes)) (sym e)

pub not_read : {P : Type 0} (remaining : P → Option (List ℕ)) (steady : Bool) (places : List Place) (known : Option (List ℕ)) (path : List ℕ) (at size : ℕ) (why : Error)
    → GivesPart remaining steady known at size (Err why) → Gives remaining steady (tops_at places known) path (Unreadable why)
not_read remaining steady places None path at size why h = tt
not_read remaining steady places (Some bytes) path at size why h = h

pub read_there : {P : Type 0} (remaining : P → Option (List ℕ)) (steady : Bool) (places : List Place) (known : Option (List ℕ)) (path : List ℕ) (x : Extent) (part : P) (n : ℕ)
    → Some x ≡ file_at (extents places) path → GivesPart remaining steady known x.offset x.size (Ok (part, n)) → Gives remaining steady (tops_at places known) path (Content part (Some n))
read_there remaining steady places None path x part n e h = tt
read_there remaining steady places (Some bytes) path x part n e h = (bytes_at bytes x, h.0, at_path bytes places path ∙ ap (option_map (bytes_at bytes)) (sym e), h.1)

-- ---- by a digest

path_is : (digest path : List ℕ) → IsPathOf digest path → path ≡ blob_path_of digest
path_is digest path (algorithm, encoded, d, e) =
    let free = lacks_joined colon (IsOneOf is_joint) (IsSomeOf is_lower) (λ s. lacks_one is_joint colon refl s) (λ p. lacks_some is_lower colon refl p) algorithm d.is_algorithm in
    let cut = until_is colon algorithm encoded free in
    let front : until colon digest ≡ algorithm = ap (until colon) d.spelled ∙ cut.0 in
    let back : after colon digest ≡ encoded = ap (after colon) d.spelled ∙ cut.1 in
    e ∙ sym (ap (λ (t : List ℕ). path_of t (after colon digest)) front ∙ ap (path_of algorithm) back)

same_there : {P : Type 0} (remaining : P → Option (List ℕ)) (steady : Bool) (places : List Place) (known : Option (List ℕ)) (digest : List ℕ) (opened : Opened P)
    → Gives remaining steady (tops_at places known) (blob_path_of digest) opened → Gives remaining steady (contents_at places known) digest opened
same_there remaining steady places None digest opened h = tt
same_there remaining steady places (Some bytes) digest Missing h = h
same_there remaining steady places (Some bytes) digest (Unreadable why) h = h
same_there remaining steady places (Some bytes) digest (Content part size) h = h

pub by_digest : {P : Type 0} (remaining : P → Option (List ℕ)) (steady : Bool) (places : List Place) (known : Option (List ℕ)) (digest path : List ℕ) (opened : Opened P)
    → IsPathOf digest path → Gives remaining steady (tops_at places known) path opened → Gives remaining steady (contents_at places known) digest opened
by_digest remaining steady places known digest path opened is h =
    same_there remaining steady places known digest opened (subst (λ (p : List ℕ). Gives remaining steady (tops_at places known) p opened) (path_is digest path is) h)
