-- What an unknown member of the code says.
use Rattle.std.specs.Prelude.{ℕ, List, [], ◌∷◌, string_bytes}
use Rattle.oci_model.specs.Shape.{with_second}
use Rattle.oci_schema.specs.Shapes.{alias_of}
use Rattle.oci_schema.specs.declared.record.Member.{Member}
use Rattle.oci_schema.specs.Unknown.{Report}
use Rattle.oci_schema.specs.declared.unknown.UnknownMember.{UnknownMember}

-- the names of a record's members, aliases too
abbrev pub names_in : List Member → List (List ℕ)
names_in [] = []
names_in (m ∷ ms) = m.name.now ∷ with_second (alias_of m.alias) (names_in ms)

abbrev pub reported : UnknownMember → Report
reported x = (string_bytes x.pointer, string_bytes x.name, names_in x.owner.now.members.now)
