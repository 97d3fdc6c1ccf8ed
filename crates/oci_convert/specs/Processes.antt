-- What a process becomes (image specification, "Conversion to OCI Runtime Configuration", "Verbatim Fields" and `Config.User`).
use Rattle.std.specs.Prelude.{ℕ, List, ◌++◌, ◌≡◌, Bool, true, false, Option, Some, None, Vec, string_bytes, unwrap_or, IsSomeAnd}
use Rattle.std.specs.declared.alloc.Global.{Global}
use Rattle.oci_text.specs.declared.os.Os.{Os}
use Rattle.oci_image.specs.declared.config.Config.{Config}
use Rattle.oci_process.specs.declared.process.Process.{Process}
use Rattle.oci_process.specs.declared.user.User.{User}
use Rattle.oci_convert.specs.Texts.{texts_of, list_of, said}
use Rattle.oci_convert.specs.Verbatim.{arguments, environment}
use Rattle.oci_convert.specs.Users.{is_windows, Resolves}

-- additional groups that are said replace those that were there
abbrev pub GroupsBy : Option (List ℕ) → Option (Vec ℕ Global) → Option (Vec ℕ Global) → Type 0
GroupsBy None before after = after ≡ before
GroupsBy (Some gids) before after = IsSomeAnd after (λ v. v.items ≡ gids)

-- on Windows the text is the name of the user, and the rest of the user stays
pub record IsWindowsUser (text : List ℕ) (before after : User) : Type 0 where
  pub name : IsSomeAnd after.username (λ name. string_bytes name ≡ text)
  pub others : after ≡ record before { username = after.username }

-- the users and groups in the container's context
module _ (is_user : List ℕ → ℕ → ℕ → Type 0) (is_own_group : ℕ → ℕ → Type 0) (is_group : List ℕ → ℕ → Type 0) (are_groups : List ℕ → List ℕ → Type 0) where
  -- elsewhere it stands for IDs and groups, and the rest of the user stays
  pub record IsPosixUser (text : List ℕ) (before after : User) : Type 0 where
    pub gids : Option (List ℕ)
    pub resolves : Resolves is_user is_own_group is_group are_groups text after.uid after.gid gids
    pub groups : GroupsBy gids before.additional_gids after.additional_gids
    pub others : after ≡ record before { uid = after.uid; gid = after.gid; additional_gids = after.additional_gids }

  -- the user on Windows or elsewhere; where there is no text, it stays
  abbrev pub IsUserFor : Bool → Option (List ℕ) → User → User → Type 0
  IsUserFor on_windows None before after = after ≡ before
  IsUserFor true (Some text) before after = IsWindowsUser text before after
  IsUserFor false (Some text) before after = IsPosixUser text before after

  -- what a process becomes
  pub record ConvertsProcess (os : Os) (config : Config) (before after : Process) : Type 0 where
    pub args : list_of after.args ≡ arguments (texts_of config.entrypoint ++ texts_of config.cmd) (list_of before.args)
    pub env : list_of after.env ≡ environment (list_of config.env) (list_of before.env)
    pub cwd : string_bytes after.cwd ≡ unwrap_or (said config.working_dir) (string_bytes before.cwd)
    pub user : IsUserFor (is_windows os) (said config.user) before.user after.user
    pub others : after ≡ record before { args = after.args; env = after.env; cwd = after.cwd; user = after.user }

  -- what it becomes by the image's `config`, if the image has one
  abbrev pub ProcessBy : Os → Option Config → Process → Process → Type 0
  ProcessBy os None before after = after ≡ before
  ProcessBy os (Some config) before after = ConvertsProcess os config before after
