-- What a sink has hashed. A sink is asked what it has taken and not by which algorithm, so a number of the algorithm stands before the text.
use Rattle.std.specs.Prelude.{◌≡◌, ℕ, List, ◌∷◌}
use Rattle.oci_content.specs.Hashing.{Holds}
use Rattle.oci_content.specs.declared.algorithm.Algorithm.{Algorithm}
use Rattle.oci_content.specs.declared.algorithm.Algorithm.TheVariants.{Sha256, Sha384, Sha512}
use Rattle.oci_content.specs.declared.hasher.Hasher.{Hasher}

abbrev pub number_of : Algorithm → ℕ
number_of Sha256 = 256
number_of Sha384 = 384
number_of Sha512 = 512

-- the hasher has taken the text behind the number of its algorithm
pub record HasHashed (hasher : Hasher) (taken : List ℕ) : Type 0 where
  pub algorithm : Algorithm
  pub text : List ℕ
  pub holds : Holds algorithm hasher text
  pub is : taken ≡ number_of algorithm ∷ text
