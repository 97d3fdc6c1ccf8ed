use Rattle.std.proofs.Common.{sym, subst, ◌∙◌, true≢false}
use Rattle.serde_json.specs.View.{view}
use Rattle.oci_layers.specs.Errors.{IsNotGzip}
use Rattle.oci_verify.proofs.Unpacking.{no_gzip, other_sum, right_sum}
use Rattle.oci_verify.proofs.layers.Layers.wrong_with.Goals as goal

pub returns-then-is_sum_of : goal.returns-then-is_sum_of
returns-then-is_sum_of g c =
    right_sum (g.S.Blob.Read.remaining c.args.blob) (view c.args.id.now) c.algorithm_of.result c.in-Ok.sum c.algorithm_of.ensures c.in-Ok.ensures.ok (c.is_sum_of.ensures.0 c.if-is_sum_of.true)

pub returns-else-is_sum_of : goal.returns-else-is_sum_of
returns-else-is_sum_of g c =
    other_sum (g.S.Blob.Read.remaining c.args.blob) (view c.args.id.now) c.algorithm_of.result c.in-Ok.sum c.algorithm_of.ensures c.in-Ok.ensures.ok
    (λ is. true≢false (sym (c.is_sum_of.ensures.1 is) ∙ c.if-is_sum_of.false))

pub returns-in-Err-NotGzip : goal.returns-in-Err-NotGzip
returns-in-Err-NotGzip g c =
    no_gzip (g.S.Blob.Read.remaining c.args.blob) (view c.args.id.now) c.in-Err-NotGzip.error (c.in-Err-NotGzip.ensures.not_gzip (subst IsNotGzip (sym c.in-Err-NotGzip.field-0-is) tt)).1
