use Rattle.std.proofs.Common.{◌≡◌, []}
use Rattle.std.specs.Prelude.{◌↔◌}
use Rattle.oci_findings.proofs.Unlisted.{none_of_both}
use Rattle.oci_findings.proofs.repeated.findings_in.Goals as goal

pub returns : goal.returns
returns c =
    let same : (c.in_ok-found.found.items ≡ []) ↔ (c.in_ok-pointers.pointers.items ≡ []) = none_of_both c.in_ok-found.found.items c.in_ok-pointers.pointers.items c.in_ok-found.ensures in
    let once = c.in_ok-pointers.ensures.none in
    ((λ none. once.0 (same.0 none)), (λ all. same.1 (once.1 all)))
