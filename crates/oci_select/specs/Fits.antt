-- What a platform needs of an operating system (image specification, "Image Index", `os.version` and `os.features`).
use Rattle.std.specs.Prelude.{ℕ, ◌<◌, ◌==◌, List, Option, ◌≡◌, IfSome, codes, map, slice_get, String, string_bytes, Vec}
use Rattle.std.specs.declared.alloc.Global.{Global}
use Rattle.std.specs.List.{slice_split, Contains}
use Rattle.oci_descriptor.specs.declared.platform.Platform.{Platform}
use Rattle.oci_select.specs.Normal.{names_of}

-- the parts of a version, between dots
abbrev pub parts_of : List ℕ → List (List ℕ)
parts_of version = slice_split (λ b. b == 46) version

-- the major, minor and build number are the same: the first three parts
abbrev pub IsSameBuild : List ℕ → List ℕ → Type 0
IsSameBuild v w = (k : ℕ) → k < 3 → slice_get (parts_of v) k ≡ slice_get (parts_of w) k

-- each of these features is one of those
abbrev pub AreAmong : List (List ℕ) → List (List ℕ) → Type 0
AreAmong needed given = (feature : List ℕ) → Contains needed feature → Contains given feature

-- on Windows the versions have the same build, where both are stated; elsewhere they are not compared
abbrev pub VersionFits : List ℕ → Option (String Global) → Option (String Global) → Type 0
VersionFits os wanted stated = IfSome wanted (λ v. IfSome stated (λ w. os ≡ codes "windows" → IsSameBuild (string_bytes v) (string_bytes w)))

-- the features that an image needs are given, where the wanted platform states any
abbrev pub FeaturesFit : Option (Vec (String Global) Global) → Option (Vec (String Global) Global) → Type 0
FeaturesFit given needed = IfSome given (λ g. IfSome needed (λ n. AreAmong (map string_bytes n.items) (map string_bytes g.items)))

-- what a platform states of its system fits what the wanted one states of it
pub record Fits (wanted platform : Platform) : Type 0 where
  pub version : VersionFits (names_of wanted).os wanted.os_version platform.os_version
  pub features : FeaturesFit wanted.os_features platform.os_features
