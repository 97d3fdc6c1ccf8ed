use Rattle.std.proofs.Common.{◌≡◌, take}
use Rattle.std.specs.List.{flat_map}
use Rattle.oci_ffi.specs.Fields.{broken_fields}
use Rattle.oci_ffi.proofs.fields.list_broken.Given as goal

abbrev pub invariant-loop-broken : goal.invariant-loop-broken
invariant-loop-broken l = l.fields.items ≡ flat_map broken_fields (take l.broken-index l.found)
