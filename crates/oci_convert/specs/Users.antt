-- What a text of `Config.User` stands for (image specification, "Conversion to OCI Runtime Configuration", `Config.User`; "Image
-- Configuration", `User`).
use Rattle.std.specs.Prelude.{ℕ, List, ◌∷◌, ◌++◌, ◌≡◌, ◌⊎◌, Option, Some, None, Bool, true, false, not, filter, ◌==◌}
use Rattle.oci_base.specs.Classes.{colon, has}
use Rattle.oci_accounts.specs.Ids.{IsDigits, IsId}
use Rattle.oci_text.specs.declared.os.Os.{Os}
use Rattle.oci_text.specs.declared.os.Os.TheVariants.{Windows}

-- users of a Windows image are given by name, those of all others by IDs
abbrev pub is_windows : Os → Bool
is_windows Windows = true
is_windows os = false

-- a text is `user:group`, cut at the first colon
pub record IsCut (text user group : List ℕ) : Type 0 where
  pub spelled : text ≡ user ++ colon ∷ group
  pub is_first : has colon user ≡ false

-- a number, or the name of a group
abbrev pub GroupOf : (List ℕ → ℕ → Type 0) → List ℕ → ℕ → Type 0
GroupOf is_group text gid = IsId text gid ⊎ ((¬ IsDigits text) × is_group text gid)

-- the own group of the user of an ID, or 0 where there is no such user
abbrev pub OwnGroup : (ℕ → ℕ → Type 0) → ℕ → ℕ → Type 0
OwnGroup is_own_group uid gid = is_own_group uid gid ⊎ (((g : ℕ) → ¬ is_own_group uid g) × (gid ≡ 0))

-- a number, with the own group, or the name of a user
abbrev pub UserOf : (List ℕ → ℕ → ℕ → Type 0) → (ℕ → ℕ → Type 0) → List ℕ → ℕ → ℕ → Type 0
UserOf is_user is_own_group text uid gid = (IsId text uid × OwnGroup is_own_group uid gid) ⊎ ((¬ IsDigits text) × is_user text uid gid)

-- the groups of a user, as initgroups(3) sets them: its own, and then the others that name it
abbrev pub with_own : ℕ → List ℕ → List ℕ
with_own gid gids = gid ∷ filter (λ g. not (g == gid)) gids

-- the users and groups in the container's context
module _ (is_user : List ℕ → ℕ → ℕ → Type 0) (is_own_group : ℕ → ℕ → Type 0) (is_group : List ℕ → ℕ → Type 0) (are_groups : List ℕ → List ℕ → Type 0) where
  -- `uid` or `user` without a group: the IDs, and the additional groups where they are said
  pub data IsAlone (user : List ℕ) (uid gid : ℕ) : Option (List ℕ) → Type 0 where
    by_id : IsId user uid → OwnGroup is_own_group uid gid → IsAlone user uid gid None
    by_name : (gids : List ℕ) → ¬ IsDigits user → is_user user uid gid → are_groups user gids → IsAlone user uid gid (Some (with_own gid gids))

  -- the same, or `uid:gid`, `uid:group`, `user:gid` or `user:group`
  pub data Resolves (text : List ℕ) (uid gid : ℕ) : Option (List ℕ) → Type 0 where
    alone : (gids : Option (List ℕ)) → has colon text ≡ false → IsAlone text uid gid gids → Resolves text uid gid gids
    with_group : (user group : List ℕ) (own : ℕ) → IsCut text user group → UserOf is_user is_own_group user uid own → GroupOf is_group group gid → Resolves text uid gid None
