use Rattle.std.proofs.Common.{◌≡◌, ap, ◌∙◌, string_bytes, subst}
use Rattle.serde_json.specs.View.{view}
use Rattle.oci_saved.specs.Facts.{AddsUnless}
use Rattle.oci_saved.specs.Saved.{config_name}
use Rattle.oci_saved.specs.declared.fault.ItemFault.TheVariants.{Name}
use Rattle.oci_saved.specs.declared.fault.SavedFault.TheVariants.{Item}
use Rattle.oci_saved.proofs.Adds.{on_ok}
use Rattle.oci_saved.proofs.Configs.{config_judged}
use Rattle.oci_saved.proofs.check.Check.add_config.Goals as goal

pub returns : goal.returns
returns g c =
    let name = c.in_ok-name.name in
    on_ok c.add_value.result _ _
    (λ h. config_judged _ _ c.args.self.now.limit c.args.at (view c.args.item.now) c.args.config.now.bytes.items (view c.args.config.now.value) name c.args.found.now.items c.add_name.new.found.items
    c.add_value.new.found.items (c.in_ok-name.ensures ∙ ap config_name c.as_slice.ensures.value)
    (subst (λ path. AddsUnless (path ≡ string_bytes name) (Item c.args.at (Name name)) c.args.found.now.items c.add_name.new.found.items) c.string_under.ensures c.in_ok-add_name.ensures) h)
    c.add_value.ensures
