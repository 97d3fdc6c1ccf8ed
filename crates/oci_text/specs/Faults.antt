-- The texts of refusals of digests (image specification, "Content Descriptors", "Digests").
use Rattle.std.specs.Prelude.{ℕ, List, ◌++◌, codes, decimal}
use Rattle.oci_text.specs.declared.fault.Fault.{Fault}
use Rattle.oci_text.specs.declared.fault.Fault.TheVariants.{NoColon, EmptyComponent, Component, EmptyValue, Value, Length, NotHex}

abbrev pub fault_text : Fault → List ℕ
fault_text NoColon = codes "missing ':' in digest"
fault_text EmptyComponent = codes "Empty algorithm component"
fault_text (Component part) = codes "Invalid algorithm component: " ++ part.now
fault_text EmptyValue = codes "Empty algorithm value"
fault_text (Value encoded) = codes "Invalid encoded value " ++ encoded.now
fault_text (Length found expected) = codes "Invalid digest length " ++ (decimal found ++ (codes " expected " ++ decimal expected))
fault_text (NotHex encoded) = codes "Invalid non-hexadecimal character in digest: " ++ encoded.now
