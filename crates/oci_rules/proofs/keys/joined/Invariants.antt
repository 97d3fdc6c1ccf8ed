use Rattle.std.proofs.Common.{◌≡◌, [], drop, string_bytes}
use Rattle.serde_json.specs.View.{view}
use Rattle.oci_rules.specs.Parts.{joined}
use Rattle.oci_rules.specs.Tables.{ways_of}
use Rattle.oci_rules.proofs.keys.joined.Given as goal

abbrev pub invariant-loop-way : goal.invariant-loop-way
invariant-loop-way l = joined (string_bytes l.at) (ways_of (drop l.way-index l.ways)) (view l.value) ≡ joined [] (ways_of l.ways) (view l.value)
