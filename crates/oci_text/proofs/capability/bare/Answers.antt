use Rattle.std.proofs.Common.{suc, ap, ◌∙◌, ◌++◌}
use Rattle.oci_base.specs.Capabilities.{cap, repeated}
use Rattle.oci_text.proofs.CapTexts.{repeated_more}
use Rattle.oci_text.proofs.capability.bare.Goals as goal

pub loop-behind-preserved : goal.loop-behind-preserved
loop-behind-preserved c =
    let i = c.loop-behind.invariant in
    (suc i.0, i.1 ∙ ap (λ u. repeated i.0 cap ++ u) c.in-Some.ensures.some ∙ repeated_more i.0 _)
