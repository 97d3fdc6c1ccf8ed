-- What `fmt` says of a member that its output lacks.
use Rattle.std.specs.Prelude.{◌≡◌, ◌++◌, ◌∷◌, [], ℕ, List, codes, string_bytes}
use Rattle.oci_base.specs.Escaped.{escaped}
use Rattle.oci_findings.specs.declared.left_out.Change.{Change}
use Rattle.oci_findings.specs.declared.left_out.Change.TheVariants.{Dropped, Renamed, Repeated}
use Rattle.oci_findings.specs.declared.left_out.LeftOut.{LeftOut}

-- what becomes of the member at this pointer
abbrev pub change_words : Change → List ℕ → List ℕ
change_words Dropped at = codes "dropped: " ++ at
change_words (Renamed name) at = codes "renamed: " ++ (at ++ (codes " to " ++ name.now))
change_words Repeated at = codes "repeated: " ++ at

-- the line of a member
abbrev pub IsChangeLine : LeftOut → List ℕ → Type 0
IsChangeLine l line = line ≡ escaped (change_words l.change (string_bytes l.pointer)) ++ 10 ∷ []
