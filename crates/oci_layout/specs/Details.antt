-- What is seen in a document beside what it claims.
use Rattle.std.specs.Prelude.{◌&&◌, Bool, true, false, not, List, [], ◌∷◌, Option, Some, None}
use Rattle.oci_layout.specs.declared.claim.Detail.{Detail}
use Rattle.oci_layout.specs.declared.claim.Fault.{Fault}
use Rattle.oci_layout.specs.declared.claim.Fault.TheVariants.{Missing, NoDocument, Embedded}

abbrev pub is_none : {A : Type 0} → List A → Bool
is_none [] = true
is_none (x ∷ xs) = false

-- What was seen goes with what stands against a claim. There are violations exactly of a document that its schema does not allow. No descriptor holds what is not its
-- content where nothing stands against the claim or nothing is there; one does where that alone stands against it.
abbrev pub goes_with : Option Fault → Detail → Bool
goes_with None seen = is_none seen.violations.items && is_none seen.held.items
goes_with (Some Missing) seen = is_none seen.violations.items && is_none seen.held.items
goes_with (Some NoDocument) seen = not (is_none seen.violations.items)
goes_with (Some Embedded) seen = is_none seen.violations.items && not (is_none seen.held.items)
goes_with (Some f) seen = is_none seen.violations.items

-- what may stand against a claim although nothing was seen in its document
abbrev pub goes_alone : Fault → Bool
goes_alone NoDocument = false
goes_alone Embedded = false
goes_alone f = true
