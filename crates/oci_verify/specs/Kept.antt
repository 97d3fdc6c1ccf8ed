-- What is kept in a layout.
use Rattle.std.specs.Prelude.{◌≡◌, ℕ, List, Option, Some, IfSome}
use Rattle.deflate.specs.Bits.{AreBelow}
use Rattle.oci_content.specs.Content.{IsContentOf}

-- the bytes are what is kept under the digest, and have it and the size
abbrev pub IsKept : (List ℕ → Option (List ℕ)) → List ℕ → ℕ → List ℕ → Type 0
IsKept contents digest size bytes = (contents digest ≡ Some bytes) × IsContentOf digest size bytes

-- what is kept is bytes: each number is below 256
abbrev pub AreBytes : (List ℕ → Option (List ℕ)) → Type 0
AreBytes contents = (digest : List ℕ) → IfSome (contents digest) (AreBelow 256)
