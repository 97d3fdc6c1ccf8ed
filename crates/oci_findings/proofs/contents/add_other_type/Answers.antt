use Rattle.std.proofs.Common.{◌++◌, ◌∷◌, [], Some, true, map, ap, ◌∙◌}
use Rattle.std.proofs.lemmas.Result.{on_ok_weaker}
use Rattle.oci_layout.specs.declared.claim.Fault.TheVariants as fault
use Rattle.oci_findings.specs.Contents.{against, fact}
use Rattle.oci_findings.proofs.contents.add_other_type.Goals as goal

pub returns : goal.returns
returns c =
    on_ok_weaker c.add.result
    (λ e. e ∙ ap (λ at. map fact c.args.found.now.items ++ (at, Some (against fault.OtherType), true) ∷ []) c.in_ok-pointer.ensures.ok)
    c.add.ensures
