-- What an error says to a person.
use Rattle.std.specs.Prelude.{ℕ, List, length, ◌++◌, ◌==◌, if◌then◌else◌, codes, Option, Some, None, string_bytes}
use Rattle.oci_base.specs.declared.error.OciSpecError.{OciSpecError}
use Rattle.oci_base.specs.declared.error.OciSpecError.TheVariants.{Other, Io, SerDe, Builder, Memory}
use Rattle.oci_base.specs.declared.error.SchemaFault.{SchemaFault}
use Rattle.oci_base.specs.declared.error.SerDeError.{SerDeError}
use Rattle.oci_base.specs.declared.error.SerDeError.TheVariants.{Json, Schema}

-- the record and the member that a schema rejects; the record alone where no member is named
abbrev pub explained_fault : SchemaFault → List ℕ
explained_fault fault =
    if length fault.member.now == 0 then
    fault.owner.now ++ codes " is not as its schema wants it"
    else fault.owner.now ++ codes "." ++ fault.member.now ++ codes " is missing or not as its schema wants it"

-- what the JSON reader prints is its own
abbrev explained_serde : SerDeError → Option (List ℕ)
explained_serde (Json e) = None
explained_serde (Schema fault) = Some (explained_fault fault)

-- all that the error says, and nothing of what the system prints for a failed read or write
abbrev pub explained : OciSpecError → Option (List ℕ)
explained (Other text) = Some (string_bytes text)
explained (Io e) = None
explained (SerDe e) = explained_serde e
explained (Builder e) = Some (codes "`" ++ e.field.now ++ codes "` must be initialized")
explained Memory = Some (codes "out of memory")
