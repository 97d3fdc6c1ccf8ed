-- Names of references (image specification, "Pre-Defined Annotation Keys", `org.opencontainers.image.ref.name`).
use Rattle.std.specs.Prelude.{ℕ, ◌≡◌, ◌⊎◌, Bool, List, Option, IsTrue, codes}
use Rattle.std.specs.Char.{is_ascii_alphanumeric}
use Rattle.oci_reference.specs.Reference.{IsReference}
use Rattle.oci_base.specs.Classes.{dot, slash, colon, has, until, IsSomeOf, IsOneOf, IsMark, IsJoined}

-- one of `- . _ : @ +`
abbrev pub is_ref_mark : ℕ → Bool
is_ref_mark b = has b (codes "-._:@+")

-- separator ::= [-._:@+] | "--"
abbrev pub IsRefSeparator : List ℕ → Type 0
IsRefSeparator text = IsOneOf is_ref_mark text ⊎ (text ≡ codes "--")

-- component ::= alphanum (separator alphanum)*, where alphanum ::= [A-Za-z0-9]+
abbrev pub IsRefComponent : List ℕ → Type 0
IsRefComponent text = IsJoined IsRefSeparator (IsSomeOf is_ascii_alphanumeric) text

-- ref ::= component ("/" component)*
abbrev pub IsRefName : List ℕ → Type 0
IsRefName text = IsJoined (IsMark slash) IsRefComponent text

-- a reference of some name, tag and digest
abbrev pub IsSomeReference : List ℕ → Type 0
IsSomeReference text = (name : List ℕ) × (tag digest : Option (List ℕ)) × IsReference text name tag digest

-- a name whose first part names a registry: it has "." or ":", or is `localhost` (docs/GRAMMARS.md, "Splitting a name")
abbrev pub IsRegistry : List ℕ → Type 0
IsRegistry part = IsTrue (has dot part) ⊎ (IsTrue (has colon part) ⊎ (part ≡ codes "localhost"))

abbrev pub IsQualified : List ℕ → Type 0
IsQualified name = IsTrue (has slash name) × IsRegistry (until slash name)

-- a reference that says its registry ("Pre-Defined Annotation Keys", `org.opencontainers.image.base.name`)
abbrev pub IsFullReference : List ℕ → Type 0
IsFullReference text = (name : List ℕ) × (tag digest : Option (List ℕ)) × IsReference text name tag digest × IsQualified name
