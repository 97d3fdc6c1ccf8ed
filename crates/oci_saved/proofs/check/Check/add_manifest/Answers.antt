use Rattle.serde_json.specs.View.{view}
use Rattle.oci_saved.proofs.Adds.{on_ok}
use Rattle.oci_saved.proofs.Images.{manifest_items}
use Rattle.oci_saved.proofs.check.Check.add_manifest.Goals as goal

pub returns-in-Some : goal.returns-in-Some
returns-in-Some g c =
    on_ok c.add_items.result _ _
    (λ h. manifest_items _ _ c.args.self.now.limit (view c.args.value.now) c.in-Some.items.now.items c.as_slice.result.now c.args.found.now.items c.add_items.new.found.items c.in-Some.ensures
    c.as_slice.ensures.value h) c.add_items.ensures
