-- the entries so far were seen, and what was found of them, and what is still to be found, is all
use Rattle.std.proofs.Common.{◌≡◌, [], ◌++◌, take, drop}
use Rattle.oci_layers.specs.Decided.{HasSeen, findings_behind, members}
use Rattle.oci_layers.proofs.broken.broken_rules.Given as goal

abbrev pub invariant-each : goal.invariant-each
invariant-each l = record {
  seen : HasSeen l.seen (members (take l.at l.places));
  found : l.found.items ++ findings_behind (members (take l.at l.places)) (members (drop l.at l.places)) ≡ findings_behind [] (members l.places);
}
