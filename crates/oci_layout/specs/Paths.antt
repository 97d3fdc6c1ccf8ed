-- Where contents lie in an image layout (image specification, "Image Layout", "Blobs").
use Rattle.std.specs.Prelude.{◌≢◌, ◌≡◌, ℕ, ◌<◌, List, ◌∷◌, ◌++◌, codes, length, false}
use Rattle.oci_base.specs.Classes.{has, slash}

-- a name of a file in its folder
pub record IsPlainName (name : List ℕ) : Type 0 where
  pub some : 0 < length name
  pub no_slash : has slash name ≡ false
  pub not_this : name ≢ codes "."
  pub not_above : name ≢ codes ".."

-- the path of a digest's content, by its two parts
abbrev pub path_of : List ℕ → List ℕ → List ℕ
path_of algorithm encoded = codes "blobs/" ++ algorithm ++ slash ∷ encoded
