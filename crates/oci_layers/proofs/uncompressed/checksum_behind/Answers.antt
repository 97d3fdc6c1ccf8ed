use Rattle.oci_layers.proofs.Fronts.{ok_behind, not_gzip_behind}
use Rattle.oci_layers.proofs.uncompressed.checksum_behind.Goals as goal

pub returns-in-Some-clause-ok : goal.returns-in-Some-clause-ok
returns-in-Some-clause-ok g c =
    ok_behind c.args.front.now (g.R.Read.remaining c.args.reader) _ c.in-Some.encoding c.args.algorithm c.diff_id.result
    c.chain.ensures.bytes c.requires.most c.requires.end c.in-Some.ensures c.diff_id.ensures.ok

pub returns-in-Some-clause-not_gzip : goal.returns-in-Some-clause-not_gzip
returns-in-Some-clause-not_gzip g c =
    not_gzip_behind c.args.front.now (g.R.Read.remaining c.args.reader) _ c.in-Some.encoding c.diff_id.result
    c.chain.ensures.bytes c.requires.most c.requires.end c.in-Some.ensures c.diff_id.ensures.not_gzip
