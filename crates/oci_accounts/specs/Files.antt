-- What the lines of passwd(5) and group(5) say together: of those for one name, or for one ID, the first counts.
use Rattle.std.specs.Prelude.{ℕ, List, [], ◌∷◌, ◌++◌, ◌≡◌, map}
use Rattle.oci_accounts.specs.Lines.{IsForUser, OwnsGroup, IsForGroup, Joins}
use Rattle.oci_accounts.specs.declared.files.AccountFiles.{AccountFiles}

-- a line says this, and no line before it says anything
pub data First {A : Type 0} (Says : List ℕ → A → Type 0) : List (List ℕ) → A → Type 0 where
  here : (line : List ℕ) (lines : List (List ℕ)) (a : A) → Says line a → First Says (line ∷ lines) a
  later : (line : List ℕ) (lines : List (List ℕ)) (a : A) → ((b : A) → ¬ Says line b) → First Says lines a → First Says (line ∷ lines) a

-- the user of a name has these IDs
abbrev pub IsUser : List (List ℕ) → List ℕ → ℕ → ℕ → Type 0
IsUser lines name uid gid = First (IsForUser name) lines (uid, gid)

-- the user of an ID has this group as its own
abbrev pub IsOwnGroup : List (List ℕ) → ℕ → ℕ → Type 0
IsOwnGroup lines uid gid = First (OwnsGroup uid) lines gid

-- the group of a name has this ID
abbrev pub IsGroup : List (List ℕ) → List ℕ → ℕ → Type 0
IsGroup lines name gid = First (IsForGroup name) lines gid

-- these are the IDs of the groups that have this member, in the order of their lines
pub data AreGroups (member : List ℕ) : List (List ℕ) → List ℕ → Type 0 where
  none : AreGroups member [] []
  skips : (line : List ℕ) (lines : List (List ℕ)) (gids : List ℕ) → ((g : ℕ) → ¬ Joins member line g) → AreGroups member lines gids → AreGroups member (line ∷ lines) gids
  joins : (line : List ℕ) (lines : List (List ℕ)) (gid : ℕ) (gids : List ℕ) → Joins member line gid → AreGroups member lines gids → AreGroups member (line ∷ lines) (gid ∷ gids)

-- the groups of a line that has this member are behind those before
pub record AddsGroups (member line : List ℕ) (old new : List ℕ) : Type 0 where
  pub added : List ℕ
  pub are_groups : AreGroups member (line ∷ []) added
  pub grown : new ≡ old ++ added

-- the lines that are asked
abbrev pub passwd_of : AccountFiles → List (List ℕ)
passwd_of files = map (λ line. line.now) files.passwd.items

abbrev pub group_of : AccountFiles → List (List ℕ)
group_of files = map (λ line. line.now) files.group.items
