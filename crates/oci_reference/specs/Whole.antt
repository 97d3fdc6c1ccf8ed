-- The whole text of a reference: registry, repository, tag and digest behind their marks (distribution specification, "Pulling manifests").
use Rattle.std.specs.Prelude.{ℕ, List, [], ◌∷◌, ◌++◌, Option, Some, None, unwrap_or}
use Rattle.oci_base.specs.Classes.{slash, colon, at_sign}
use Rattle.oci_reference.specs.Parts.{Parts}

-- the part, where it is not empty
abbrev pub nonempty : List ℕ → Option (List ℕ)
nonempty [] = None
nonempty (b ∷ text) = Some (b ∷ text)

-- a part behind what was written, with its mark between the two
abbrev pub followed : Option (List ℕ) → ℕ → Option (List ℕ) → Option (List ℕ)
followed written mark None = written
followed None mark (Some part) = Some part
followed (Some text) mark (Some part) = Some (text ++ mark ∷ part)

-- the whole text, in which the mirror does not occur
abbrev pub whole : Parts → List ℕ
whole r = unwrap_or (followed (followed (followed (nonempty r.registry) slash (nonempty r.repository)) colon r.tag) at_sign r.digest) []
