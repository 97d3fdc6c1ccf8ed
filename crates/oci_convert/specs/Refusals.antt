-- Why a text of `Config.User` stands for no user (image specification, "Conversion to OCI Runtime Configuration", `Config.User`).
use Rattle.std.specs.Prelude.{ℕ, List, ◌≡◌, Bool, true, false, Option, Some, None}
use Rattle.oci_base.specs.Classes.{colon, has}
use Rattle.oci_accounts.specs.Ids.{IsDigits, IsId}
use Rattle.oci_convert.specs.declared.error.ConvertError.{ConvertError}
use Rattle.oci_convert.specs.declared.error.ConvertError.TheVariants.{UnknownUser, UnknownGroup, NoId}
use Rattle.oci_convert.specs.Users.{IsCut}

-- digits for a number that is no ID
abbrev pub IsNoId : List ℕ → Type 0
IsNoId part = IsDigits part × ((id : ℕ) → ¬ IsId part id)

-- why a text is no user
abbrev pub RefusesPart : (List ℕ → ℕ → ℕ → Type 0) → List ℕ → ConvertError → Type 0
RefusesPart is_user user UnknownUser = (¬ IsDigits user) × ((uid gid : ℕ) → ¬ is_user user uid gid)
RefusesPart is_user user NoId = IsNoId user
RefusesPart is_user user e = ⊥

-- why a text is no group
abbrev pub RefusesGroup : (List ℕ → ℕ → Type 0) → List ℕ → ConvertError → Type 0
RefusesGroup is_group group UnknownGroup = (¬ IsDigits group) × ((gid : ℕ) → ¬ is_group group gid)
RefusesGroup is_group group NoId = IsNoId group
RefusesGroup is_group group e = ⊥

-- why a text of `Config.User` stands for no user
pub data RefusesUser (is_user : List ℕ → ℕ → ℕ → Type 0) (is_group : List ℕ → ℕ → Type 0) (text : List ℕ) (e : ConvertError) : Type 0 where
  whole : has colon text ≡ false → RefusesPart is_user text e → RefusesUser is_user is_group text e
  of_user : (user group : List ℕ) → IsCut text user group → RefusesPart is_user user e → RefusesUser is_user is_group text e
  of_group : (user group : List ℕ) → IsCut text user group → RefusesGroup is_group group e → RefusesUser is_user is_group text e

-- the same on Windows or elsewhere: on Windows each text is the name of a user, and none is looked up
abbrev pub RefusesUserFor : (List ℕ → ℕ → ℕ → Type 0) → (List ℕ → ℕ → Type 0) → Bool → Option (List ℕ) → ConvertError → Type 0
RefusesUserFor is_user is_group on_windows None e = ⊥
RefusesUserFor is_user is_group true (Some text) e = ⊥
RefusesUserFor is_user is_group false (Some text) e = RefusesUser is_user is_group text e
