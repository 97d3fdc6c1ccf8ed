-- Bytes that are read from any place.
use Rattle.std.specs.declared.io.Error.{Error}
use Rattle.std.specs.Prelude.{◌≡◌, ⊤, ℕ, List, take, drop, length, Bool, false, Option, Some, None, Result, Ok, Err}

-- at most so many bytes from this place on
abbrev pub part_of : List ℕ → ℕ → ℕ → List ℕ
part_of bytes at size = take size (drop at bytes)

-- a reader of these bytes, and how many they are
abbrev pub IsPartOf : {P : Type 0} → (P → Option (List ℕ)) → List ℕ → P × ℕ → Type 0
IsPartOf remaining bytes part = (remaining part.0 ≡ Some bytes) × (part.1 ≡ length bytes)

-- what a source gives: a part of its bytes, where they are known, or an error, unless its reads cannot fail
abbrev pub GivesPart : {P : Type 0} → (P → Option (List ℕ)) → Bool → Option (List ℕ) → ℕ → ℕ → Result (P × ℕ) Error → Type 0
GivesPart remaining steady None at size given = ⊤
GivesPart remaining steady (Some bytes) at size (Err why) = steady ≡ false
GivesPart remaining steady (Some bytes) at size (Ok part) = IsPartOf remaining (part_of bytes at size) part
