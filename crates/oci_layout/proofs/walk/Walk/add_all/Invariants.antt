use Rattle.std.proofs.Common.{◌≡◌, ◌++◌}
use Rattle.oci_layout.specs.Walk.{Extends, IsWithin, IsOnly}
use Rattle.oci_layout.proofs.walk.Walk.add_all.Given as goal

abbrev pub invariant-more : goal.invariant-more
invariant-more l = record {
  whole : l.fn.more.items ≡ l.yielded ++ l.claim-iterator.rest.items;
  kept : Extends l.self.claims.items l.initial.self.claims.items;
  added : IsWithin l.yielded l.self.claims.items;
  only : IsOnly l.self.claims.items l.initial.self.claims.items l.yielded;
  faults : l.self.faults ≡ l.initial.self.faults;
}
