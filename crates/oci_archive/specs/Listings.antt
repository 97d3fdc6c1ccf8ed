-- What is listed of the entries of an archive.
use Rattle.std.specs.Prelude.{◌≡◌, ℕ, List, [], ◌∷◌, ◌++◌, map, Option, Some, None, string_bytes}
use Rattle.std.specs.List.{All, filter_map}
use Rattle.oci_layout.specs.declared.store.Listed.{Listed}
use Rattle.tar.specs.Entries.{member_of}
use Rattle.tar.specs.declared.index.Place.{Place}
use Rattle.oci_archive.specs.Layouts.{name_of}

abbrev pub paths_of : List Listed → List (List ℕ)
paths_of listed = map (λ l. string_bytes l.path) listed

-- one more is listed, with this path
pub record IsOneMore (name : List ℕ) (old new : List Listed) : Type 0 where
  pub one : Listed
  pub whole : one.fault ≡ None
  pub path : string_bytes one.path ≡ name
  pub more : new ≡ old ++ one ∷ []

-- the entry that is put at this path is listed, if there is such a path
abbrev pub AddsName : Option (List ℕ) → List Listed → List Listed → Type 0
AddsName None old new = new ≡ old
AddsName (Some path) old new = IsOneMore path old new

-- the names of all entries that have one, none of a folder that is cut
pub record IsListOf (places : List Place) (listed : List Listed) : Type 0 where
  pub paths : paths_of listed ≡ filter_map (λ p. name_of (member_of p.entry)) places
  pub whole : All (λ l. l.fault ≡ None) listed
