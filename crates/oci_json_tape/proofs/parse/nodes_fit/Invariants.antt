use Rattle.std.proofs.Common.{◌≡◌, ◌+◌, ◌≤◌, map, drop}
use Rattle.json.specs.Tape.{node_token}
use Rattle.oci_json_tape.specs.Fits.{fits}
use Rattle.oci_json_tape.proofs.parse.nodes_fit.Given as goal

abbrev pub invariant-loop-node : goal.invariant-loop-node
invariant-loop-node l = (fits 127 (map node_token l.nodes) ≡ fits l.room (map node_token (drop l.node-index l.nodes))) × (l.room ≤ 127 + l.node-index)
