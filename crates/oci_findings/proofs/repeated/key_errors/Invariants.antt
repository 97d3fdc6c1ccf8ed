use Rattle.std.proofs.Common.{◌≡◌, length, take, map}
use Rattle.std.specs.Prelude.{string_bytes}
use Rattle.std.specs.List.{filter}
use Rattle.oci_findings.specs.Asked.{is_wrong_twice}
use Rattle.oci_findings.proofs.repeated.key_errors.Given as goal

abbrev pub invariant-loop-pointer : goal.invariant-loop-pointer
invariant-loop-pointer l = length l.found.items ≡ length (filter (is_wrong_twice l.asked l.kind) (map string_bytes (take l.pointer-index l.repeated.items)))
