use Rattle.std.proofs.Common.{◌≡◌, map, take}
use Rattle.std.specs.Prelude.{filter}
use Rattle.oci_descriptor.specs.Descriptor.{descriptor_plain}
use Rattle.oci_inspect.specs.Named.{is_named}
use Rattle.oci_inspect.proofs.names.named.Given as goal

abbrev pub invariant-loop-manifest : goal.invariant-loop-manifest
invariant-loop-manifest l = map descriptor_plain l.list.items ≡ map descriptor_plain (filter (is_named l.name) (take l.manifest-index l.manifests))
