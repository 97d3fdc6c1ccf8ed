use Rattle.std.proofs.Common.{◌++◌, ◌≤◌, ◌∙◌, length, map, min, sym, ap, arith}
use Rattle.std.proofs.lemmas.List.{append-nil}
use Rattle.oci_agreement.specs.Listed.{told_of}
use Rattle.oci_agreement.proofs.Steps.{pairs_done}
use Rattle.oci_agreement.proofs.layers.add_each_diff_id.Goals as goal

pub returns : goal.returns
returns c =
    let ended : min (length c.args.layers.now.items) (length c.args.ids.now.items) ≤ c.each.index = omega arith in
    sym (append-nil (map told_of c.each.broken.items))
    ∙ ap (λ z. map told_of c.each.broken.items ++ z) (sym (pairs_done c.each.index c.each.index c.args.layers.now.items c.args.ids.now.items ended)) ∙ c.each.invariant
