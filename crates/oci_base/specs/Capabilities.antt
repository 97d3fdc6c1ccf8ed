-- The texts of capabilities in JSON (runtime specification, "Linux Process", `capabilities`).
use Rattle.std.specs.Prelude.{◌≡◌, ℕ, zero, suc, List, [], ◌++◌, Bool, not, if◌then◌else◌, nat_le, nat_eq, bytes_eq, ◌&&◌, ◌-◌, map, codes}
use Rattle.std.specs.List.{starts_with}

-- a letter's capital
abbrev pub ascii_upper : ℕ → ℕ
ascii_upper c = if nat_le 97 c && nat_le c 122 then c - 32 else c

-- what stands in front of a capability's name
abbrev pub cap : List ℕ
cap = codes "CAP_"

abbrev pub repeated : ℕ → List ℕ → List ℕ
repeated zero t = []
repeated (suc n) t = t ++ repeated n t

-- the text's uppercase is `CAP_` some number of times, and then the name
abbrev pub CapText : List ℕ → List ℕ → Type 0
CapText t name = (n : ℕ) × (map ascii_upper t ≡ repeated n cap ++ name)

-- an uppercase name that does not begin with `CAP_`
abbrev pub is_capability_name : List ℕ → Bool
is_capability_name name = not (starts_with nat_eq name cap) && bytes_eq (map ascii_upper name) name
