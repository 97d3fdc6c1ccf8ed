-- Lines of passwd(5), `name:password:UID:GID:GECOS:directory:shell`, and of group(5), `name:password:GID:members`.
use Rattle.std.specs.Prelude.{ℕ, ◌==◌, ◌||◌, Bool, IsFalse, List, [], ◌∷◌, ◌≡◌, Some, slice_get}
use Rattle.std.specs.List.{slice_split, Contains}
use Rattle.oci_accounts.specs.Ids.{IsId}

-- the lines of a text, between line feeds
abbrev pub lines_of : List ℕ → List (List ℕ)
lines_of text = slice_split (λ b. b == 10) text

-- the fields of a line, between colons
abbrev pub fields_of : List ℕ → List (List ℕ)
fields_of line = slice_split (λ b. b == 58) line

-- the names in a field, between commas
abbrev pub names_of : List ℕ → List (List ℕ)
names_of field = slice_split (λ b. b == 44) field

-- what begins no name: a space or a tab, the `#` of a comment, and the `+` and `-` of entries of other databases
abbrev pub begins_no_name : ℕ → Bool
begins_no_name b = (b == 32) || (b == 9) || (b == 35) || (b == 43) || (b == 45)

-- a name: not empty, and not begun by such a byte
abbrev pub IsName : List ℕ → Type 0
IsName [] = ⊥
IsName (b ∷ text) = IsFalse (begins_no_name b)

-- the line is one of passwd(5), for the user of this name and these IDs
pub record IsUserLine (line name : List ℕ) (uid gid : ℕ) : Type 0 where
  pub password : List ℕ
  pub user : List ℕ
  pub group : List ℕ
  pub rest : List (List ℕ)
  pub spelled : fields_of line ≡ name ∷ password ∷ user ∷ group ∷ rest
  pub is_name : IsName name
  pub is_user : IsId user uid
  pub is_group : IsId group gid

-- the line is one of group(5), for the group of this name and ID, with these fields behind the ID
pub record IsGroupLine (line name : List ℕ) (gid : ℕ) (rest : List (List ℕ)) : Type 0 where
  pub password : List ℕ
  pub group : List ℕ
  pub spelled : fields_of line ≡ name ∷ password ∷ group ∷ rest
  pub is_name : IsName name
  pub is_group : IsId group gid

-- the first of the fields, which lists members; nothing where there is none
abbrev pub members_in : List (List ℕ) → List ℕ
members_in [] = []
members_in (members ∷ rest) = members

-- the name is one of those between the commas of a field
abbrev pub IsMember : List ℕ → List ℕ → Type 0
IsMember members name = IsName name × Contains (names_of members) name

-- the line is for the user of this name, who has that ID, and its own group that
abbrev pub IsForUser : List ℕ → List ℕ → ℕ × ℕ → Type 0
IsForUser name line ids = IsUserLine line name ids.0 ids.1

-- the line is for the user of this ID, whose own group has that ID
pub record OwnsGroup (uid : ℕ) (line : List ℕ) (gid : ℕ) : Type 0 where
  pub name : List ℕ
  pub is_line : IsUserLine line name uid gid

-- the line is for the group of this name, and it has that ID
pub record IsForGroup (name line : List ℕ) (gid : ℕ) : Type 0 where
  pub rest : List (List ℕ)
  pub is_line : IsGroupLine line name gid rest

-- the line is for a group that has this member, and it has that ID
pub record Joins (member line : List ℕ) (gid : ℕ) : Type 0 where
  pub name : List ℕ
  pub rest : List (List ℕ)
  pub is_line : IsGroupLine line name gid rest
  pub is_member : IsMember (members_in rest) member

-- the field of this index is there and names something
pub record NameAt (line : List ℕ) (index : ℕ) (name : List ℕ) : Type 0 where
  pub is_there : slice_get (fields_of line) index ≡ Some name
  pub is_name : IsName name

-- the field of this index is there and writes this ID
pub record IdAt (line : List ℕ) (index id : ℕ) : Type 0 where
  pub text : List ℕ
  pub is_there : slice_get (fields_of line) index ≡ Some text
  pub is_id : IsId text id
