-- What lies below `blobs` (image specification, "Image Layout", "Blobs").
use Rattle.std.specs.Prelude.{◌≡◌, ◌⊎◌, ◌++◌, ◌∷◌, [], ℕ, List, Bool, true, None, string_bytes}
use Rattle.std.specs.List.{Contains}
use Rattle.oci_base.specs.Digest.{IsDigest, IsDigestText}
use Rattle.oci_layout.specs.Paths.{path_of}
use Rattle.oci_layout.specs.declared.memory.Kept.{Kept}
use Rattle.oci_layout.specs.declared.store.Listed.{Listed}

-- the path of a digest's content
abbrev pub IsPathOf : List ℕ → List ℕ → Type 0
IsPathOf digest path = (algorithm encoded : List ℕ) × IsDigest digest algorithm encoded × (path ≡ path_of algorithm encoded)

-- the path is listed
abbrev pub IsListed : List Listed → List ℕ → Type 0
IsListed listed path = (l : Listed) × Contains listed l × (string_bytes l.path ≡ path)

-- these are names below `blobs`; where reads do not fail, all of them, and no folder is cut
pub record IsListing (steady : Bool) (names : List ℕ → Type 0) (listed : List Listed) : Type 0 where
  pub named : (l : Listed) → Contains listed l → l.fault ≡ None → names (string_bytes l.path)
  pub whole : steady ≡ true → (l : Listed) → Contains listed l → l.fault ≡ None
  pub all : steady ≡ true → (path : List ℕ) → names path → IsListed listed path

-- the path of a digest under which something is kept in memory
abbrev pub IsKeptAt : List Kept → List ℕ → Type 0
IsKeptAt kept path = (k : Kept) × Contains kept k × IsPathOf k.name.now path

-- the path of the digest is added, if it is one
pub record IsOneMore (digest : List ℕ) (old new : List Listed) : Type 0 where
  pub one : Listed
  pub whole : one.fault ≡ None
  pub path : IsPathOf digest (string_bytes one.path)
  pub only : (path : List ℕ) → IsPathOf digest path → string_bytes one.path ≡ path
  pub more : new ≡ old ++ one ∷ []

abbrev pub AddsName : List ℕ → List Listed → List Listed → Type 0
AddsName digest old new = IsOneMore digest old new ⊎ ((¬ IsDigestText digest) × (new ≡ old))
