use Rattle.serde_json.specs.View.{view}
use Rattle.oci_saved.proofs.Adds.{on_ok}
use Rattle.oci_saved.proofs.Configs.{config_unread, image_judged}
use Rattle.oci_saved.proofs.check.Check.add_item.Goals as goal

pub returns-in-Ok : goal.returns-in-Ok
returns-in-Ok g c =
    on_ok c.add_config.result _ _
    (λ h. image_judged _ _ c.args.self.now.limit c.args.at (view c.args.item.now) c.string_under-path.result.now c.in_ok-document.field-0 c.in-Ok.document c.args.found.now.items
    c.add_config.new.found.items (c.is_item.ensures.0 c.if-not-is_item.false) c.string_under-path.ensures c.in_ok-document.ensures c.in-Ok.is h) c.add_config.ensures

pub returns-in_ok-push-in-Err : goal.returns-in_ok-push-in-Err
returns-in_ok-push-in-Err g c =
    config_unread _ _ c.args.self.now.limit c.args.at (view c.args.item.now) c.string_under-path.result.now c.in_ok-document.field-0 c.in-Err.why c.args.found.now.items c.push-in-Err.new.self.items
    c.string_under-path.ensures c.in_ok-push-in-Err.ensures.items c.in_ok-document.ensures c.in-Err.is
