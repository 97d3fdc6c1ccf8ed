-- What a hasher has taken.
use Rattle.std.specs.Prelude.{ℕ, List}
use Rattle.sha2.specs.Hashers.{Holds256, Holds384, Holds512}
use Rattle.oci_content.specs.Content.{IsBy}
use Rattle.oci_content.specs.declared.algorithm.Algorithm.{Algorithm}
use Rattle.oci_content.specs.declared.algorithm.Algorithm.TheVariants as by
use Rattle.oci_content.specs.declared.hasher.Hasher.{Hasher}
use Rattle.oci_content.specs.declared.hasher.Hasher.TheVariants as hasher
use Rattle.oci_content.specs.declared.intake.Intake.{Intake}
use Rattle.oci_content.specs.declared.intake.Intake.TheVariants as intake

-- a hasher of the algorithm, which has taken the message
abbrev pub Holds : Algorithm → Hasher → List ℕ → Type 0
Holds by.Sha256 (hasher.Sha256 h) message = Holds256 h message
Holds by.Sha384 (hasher.Sha384 h) message = Holds384 h message
Holds by.Sha512 (hasher.Sha512 h) message = Holds512 h message
Holds _ _ message = ⊥

-- the algorithm that the digest names has taken the message, if it is one of the three
abbrev pub Takes : List ℕ → Intake → List ℕ → Type 0
Takes digest (intake.Known h) message = (a : Algorithm) × IsBy a digest × Holds a h message
Takes digest intake.Unknown message = (a : Algorithm) → ¬ IsBy a digest
