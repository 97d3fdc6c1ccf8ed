-- Texts of an image's configuration (image specification, "Image Configuration", `config`).
use Rattle.std.specs.Prelude.{ℕ, ◌≡◌, ◌⊎◌, List, codes}
use Rattle.oci_base.specs.Classes.{slash, colon, IsSomeOf, IsMark, IsJoined}
use Rattle.oci_grammars.specs.Classes.{is_not_colon}
use Rattle.oci_grammars.specs.Numbers.{IsNumberOrRange}
use Rattle.oci_grammars.specs.Parts.{IsExtended}

-- `tcp`, `udp` or `sctp`
abbrev pub IsProtocol : List ℕ → Type 0
IsProtocol text = (text ≡ codes "tcp") ⊎ ((text ≡ codes "udp") ⊎ (text ≡ codes "sctp"))

-- a port from 1 to 65535, or a range of ports, and perhaps "/" and a protocol (`ExposedPorts`; of ranges and of SCTP: as Docker and Podman write them)
abbrev pub IsPortSpec : List ℕ → Type 0
IsPortSpec text = IsExtended slash (IsNumberOrRange 1 65535) IsProtocol text

-- such ports, joined by commas ("Conversion to OCI Runtime Configuration", `org.opencontainers.image.exposedPorts`)
abbrev pub IsExposedPorts : List ℕ → Type 0
IsExposedPorts text = IsJoined (IsMark 44) IsPortSpec text

-- a user, and perhaps ":" and a group, neither of them empty or with ":" (`User`)
abbrev pub IsUserSpec : List ℕ → Type 0
IsUserSpec text = IsExtended colon (IsSomeOf is_not_colon) (IsSomeOf is_not_colon) text
