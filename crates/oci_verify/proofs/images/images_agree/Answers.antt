use Rattle.std.specs.List.{All}
use Rattle.oci_verify.specs.Images.{BytesKeep, ClaimKeeps}
use Rattle.oci_verify.proofs.Agreeing.{both_keep}
use Rattle.oci_verify.proofs.images.images_agree.Goals as goal

pub returns : goal.returns
returns g c = λ full.
    let options = c.args.options.now in
    let layout = c.args.layout.now in
    both_keep (g.L.Store.steady layout) (g.L.Store.contents layout) (λ k. BytesKeep options.check options.limit k c.args.index.now)
    (λ k. All (ClaimKeeps options.check options.limit k) c.args.walk.now.claims.items) c.in_ok-first.first c.in_ok-others.others c.are_both.result c.are_both.ensures c.in_ok-first.ensures
    c.in_ok-others.ensures
