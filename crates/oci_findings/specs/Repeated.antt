-- Which members were found whose name an earlier member of the same object has.
use Rattle.std.specs.Prelude.{◌≡◌, ◌⊎◌, ℕ, List, [], map, string_bytes, String, MatchOption}
use Rattle.std.specs.declared.alloc.Global.{Global}
use Rattle.json.specs.Json.{document}
use Rattle.oci_schema.specs.Twice.{repeated}
use Rattle.oci_findings.specs.Checks.{HasNamesOnce}

-- no name stands twice, and there are none; or these are all of them, by their pointers in order, and none where there are none or where the bytes are no JSON
abbrev pub AreRepeated : List ℕ → List (String Global) → Type 0
AreRepeated bytes found = (HasNamesOnce bytes × (found ≡ [])) ⊎ ((HasNamesOnce bytes → found ≡ []) × MatchOption (document bytes) (found ≡ []) (λ j. map string_bytes found ≡ repeated [] j))
