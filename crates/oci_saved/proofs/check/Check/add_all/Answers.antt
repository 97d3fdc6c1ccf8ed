use Rattle.oci_saved.proofs.Adds.{on_ok}
use Rattle.oci_saved.proofs.Images.{manifest_judged, no_manifest}
use Rattle.oci_saved.proofs.check.Check.add_all.Goals as goal

pub returns-in-Ok : goal.returns-in-Ok
returns-in-Ok g c =
    on_ok c.add_manifest.result _ _
    (λ h. manifest_judged _ _ c.args.self.now.limit c.in_ok-document.field-0 c.in-Ok.document c.args.found.now.items c.add_manifest.new.found.items c.in_ok-document.ensures c.in-Ok.is h)
    c.add_manifest.ensures

pub returns-in_ok-push-in-Err : goal.returns-in_ok-push-in-Err
returns-in_ok-push-in-Err g c =
    no_manifest _ _ c.args.self.now.limit c.in_ok-document.field-0 c.in-Err.why c.args.found.now.items c.push.new.self.items c.in_ok-push-in-Err.ensures.items c.in_ok-document.ensures c.in-Err.is
