use Rattle.std.proofs.Common.{[], ◌∷◌}
use Rattle.oci_layers.specs.Hashed.{number_of}
use Rattle.oci_layers.proofs.Checksums.{if_known, begun, ended, refused}
use Rattle.oci_layers.proofs.uncompressed.checksum_of_gzip.Goals as goal

pub returns-in-Ok-clause-ok : goal.returns-in-Ok-clause-ok
returns-in-Ok-clause-ok g c =
    let a = c.args.algorithm in
    if_known (g.R.Read.remaining c.args.reader) _ (λ bytes known below.
    let (text, is, held) = c.in-Ok.ensures bytes (number_of a ∷ []) below known (begun a c.new.result c.new.ensures) in
    (text, is, ended a c.in-Ok.done.hasher c.finish.result text held c.finish.ensures))

pub returns-in-Err-clause-err : goal.returns-in-Err-clause-err
returns-in-Err-clause-err g c = λ no_gzip.
    let a = c.args.algorithm in
    if_known (g.R.Read.remaining c.args.reader) _ (λ bytes known below.
    c.in-Err.ensures bytes (number_of a ∷ []) below known (begun a c.new.result c.new.ensures) (refused c.in-Err.error c.from.result c.from.ensures no_gzip))
