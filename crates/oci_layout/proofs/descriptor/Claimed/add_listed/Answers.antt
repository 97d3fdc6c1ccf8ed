use Rattle.std.proofs.Common.{◌++◌, ap, ◌∙◌, subst}
use Rattle.std.specs.Prelude.{unwrap_or}
use Rattle.std.specs.List.{All}
use Rattle.serde_json.specs.Data.{no_items}
use Rattle.serde_json.specs.View.{view}
use Rattle.oci_layout.specs.Claims.{list_of}
use Rattle.oci_layout.specs.Holds.{HoldsContent, StaysEmpty}
use Rattle.oci_layout.proofs.Descriptors.{stays_mapped, stays_none}
use Rattle.oci_layout.proofs.Items.{items_claim, items_seen}
use Rattle.oci_layout.proofs.descriptor.Claimed.add_listed.Goals as goal

pub returns-in_ok-add_each-in-Some-clause-claims : goal.returns-in_ok-add_each-in-Some-clause-claims
returns-in_ok-add_each-in-Some-clause-claims c =
    c.in_ok-add_each-in-Some.ensures.claims ∙ ap (λ l. c.args.self.now.claims.items ++ l) (items_claim c.args.role c.in-Some.items.now.items _ c.in-Some.ensures)

pub returns-in_ok-add_each-in-Some-clause-held : goal.returns-in_ok-add_each-in-Some-clause-held
returns-in_ok-add_each-in-Some-clause-held c =
    stays_mapped HoldsContent view c.args.self.now.held.items c.add_each.new.self.held.items c.in-Some.items.now.items _
    (items_seen c.in-Some.items.now.items _ c.in-Some.ensures) c.in_ok-add_each-in-Some.ensures.held

pub returns-in-None-clause-held : goal.returns-in-None-clause-held
returns-in-None-clause-held c =
    subst (λ o. StaysEmpty c.args.self.now.held.items c.args.self.now.held.items (All HoldsContent (list_of (unwrap_or o no_items)))) c.in-None.ensures
    (stays_none HoldsContent c.args.self.now.held.items)
