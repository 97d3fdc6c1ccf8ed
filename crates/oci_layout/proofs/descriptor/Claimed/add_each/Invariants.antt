use Rattle.std.proofs.Common.{◌≡◌, ◌++◌, map, take}
use Rattle.std.specs.List.{All}
use Rattle.serde_json.specs.View.{view}
use Rattle.oci_layout.specs.Claims.{claim_of}
use Rattle.oci_layout.specs.Holds.{HoldsContent, StaysEmpty}
use Rattle.oci_layout.proofs.descriptor.Claimed.add_each.Given as goal

abbrev pub invariant-each : goal.invariant-each
invariant-each l = record {
  claims : l.self.claims.items ≡ l.initial.self.claims.items ++ map (λ v. claim_of l.role (view v)) (take l.item-index l.items.items);
  held : StaysEmpty l.initial.self.held.items l.self.held.items (All (λ v. HoldsContent (view v)) (take l.item-index l.items.items));
}
