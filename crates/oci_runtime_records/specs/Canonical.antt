-- How the path of a root is made canonical (runtime specification, "Configuration", "Root", `path`: absolute, or from the bundle on).
use Rattle.std.specs.Prelude.{◌++◌, ◌⊎◌, ◌==◌, ◌-◌, ℕ, List, ◌∷◌, Bool, true, false, Option, Some, None, if◌then◌else◌, length, slice_get}
use Rattle.oci_base.specs.Classes.{slash}

abbrev pub is_slash : Bool → Option ℕ → Bool
is_slash otherwise None = otherwise
is_slash otherwise (Some c) = c == slash

-- a path that begins with a slash
abbrev pub is_absolute : List ℕ → Bool
is_absolute path = is_slash false (slice_get path 0)

-- a path behind a folder: with a slash between them unless the folder is empty or ends in one
abbrev pub joined : List ℕ → List ℕ → List ℕ
joined folder path = if is_slash true (slice_get folder (length folder - 1)) then folder ++ path else folder ++ slash ∷ path

module _ (Answers : List ℕ → List ℕ → Type 0) (bundle path : List ℕ) where
  abbrev pub ResolvesBy : Bool → List ℕ → Type 0
  ResolvesBy true t = Answers path t
  ResolvesBy false t = (folder : List ℕ) × Answers bundle folder × Answers (joined folder path) t

  -- t is what a resolver, which answers texts so, makes of a root's path: an absolute path it is asked for alone, else for the bundle, and then for the path behind its answer
  abbrev pub Resolves : List ℕ → Type 0
  Resolves t = ResolvesBy (is_absolute path) t

  module _ (Refuses : List ℕ → Type 0) where
    abbrev pub StopsBy : Bool → Type 0
    StopsBy true = Refuses path
    StopsBy false = Refuses bundle ⊎ ((folder : List ℕ) × Answers bundle folder × Refuses (joined folder path))

    -- the resolver refuses one of the texts that it is asked for
    abbrev pub Stops : Type 0
    Stops = StopsBy (is_absolute path)
