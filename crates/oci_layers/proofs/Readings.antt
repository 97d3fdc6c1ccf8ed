-- What is found of an index is what the archive's entries break.
use Rattle.std.proofs.Common.{◌≡◌, ◌↔◌, ℕ, List, [], ◌∷◌, map, Option, Some, None, Result, Ok, Err, IfOk, IfSome, refl, ap, subst}
use Rattle.std.specs.List.{Contains}
use Rattle.tar.specs.Archives.{Holds}
use Rattle.tar.specs.Entries.{Member, member_of, nothing_said}
use Rattle.tar.specs.Places.{entry_at, IsIndexOf}
use Rattle.tar.specs.declared.index.Place.{Place}
use Rattle.tar_folder.specs.declared.read.IndexError.{IndexError}
use Rattle.oci_layers.specs.Decided.{members}
use Rattle.oci_layers.specs.Rules.{IsBroken}
use Rattle.oci_layers.specs.declared.broken.LayerFinding.{LayerFinding}
use Rattle.oci_layers.specs.declared.read.LayerEntries.{LayerEntries}

same_members : (bytes : List ℕ) (places : List Place) → members places ≡ map (λ (e : Member × List ℕ). e.0) (map (entry_at bytes) places)
same_members bytes [] = refl
same_members bytes (p ∷ ps) = ap (λ (l : List Member). member_of p.entry ∷ l) (same_members bytes ps)

pub read_listed : (known : Option (List ℕ)) (places : List Place) (r : Result LayerEntries IndexError) → IfSome known (λ bytes. IsIndexOf bytes places)
    → IfOk r (λ l. (x : LayerFinding) → Contains l.findings.items x ↔ IsBroken (members places) x)
    → IfOk r (λ l. IfSome known (λ bytes. (es : List (Member × List ℕ)) × Holds nothing_said bytes es × ((x : LayerFinding) → Contains l.findings.items x ↔ IsBroken (map (λ e. e.0) es) x)))
read_listed known places (Err e) index found = tt
read_listed None places (Ok l) index found = tt
read_listed (Some bytes) places (Ok l) index found =
    (map (entry_at bytes) places, index, λ x. subst (λ (ms : List Member). Contains l.findings.items x ↔ IsBroken ms x) (same_members bytes places) (found x))
