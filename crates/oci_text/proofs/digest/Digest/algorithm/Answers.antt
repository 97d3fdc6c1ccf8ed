-- Each reading is cut at the first colon.
use Rattle.std.proofs.Common.{◌≡◌, rules}
use Rattle.oci_base.specs.Classes.{until, colon}
use Rattle.oci_base.specs.Names.{opened}
use Rattle.oci_text.specs.Algorithms.{algorithms, algorithm_name}
use Rattle.oci_text.proofs.CutDigests.{of_algorithm}
use Rattle.oci_text.proofs.digest.Digest.algorithm.Goals as goal

pub returns-clause-value : goal.returns-clause-value
returns-clause-value c =
    let named : algorithm_name c.self.inside.algorithm ≡ opened algorithms (until colon c.args.self.now) = search rules in
    of_algorithm algorithms (algorithm_name c.self.inside.algorithm) c.args.self.now named
