-- What the deciders of names compute.
use Rattle.std.specs.Prelude.{ℕ, ◌==◌, Bool, true, false, List, if◌then◌else◌}
use Rattle.std.specs.Char.{is_ascii_alphanumeric}
use Rattle.std.specs.List.{fold}
use Rattle.oci_base.specs.Classes.{dash, dot, underscore, is_lower}
use Rattle.oci_grammars.specs.RefNames.{is_ref_mark}
use Rattle.oci_grammars.specs.declared.names.Spot.{Spot}
use Rattle.oci_grammars.specs.declared.names.Spot.TheVariants.{BeforeRun, InRun, AfterOne, InDashes, NoName}

-- of a component of a reference's name
abbrev pub next_ref : Spot → ℕ → Spot
next_ref BeforeRun b = if is_ascii_alphanumeric b then InRun else NoName
next_ref InRun b = if is_ascii_alphanumeric b then InRun else (if b == dash then AfterOne else (if is_ref_mark b then BeforeRun else NoName))
next_ref AfterOne b = if is_ascii_alphanumeric b then InRun else (if b == dash then BeforeRun else NoName)
next_ref InDashes b = NoName
next_ref NoName b = NoName

-- of a component of a repository
abbrev pub next_path : Spot → ℕ → Spot
next_path BeforeRun b = if is_lower b then InRun else NoName
next_path InRun b =
    if is_lower b then InRun else (if b == dot then BeforeRun else (if b == underscore then AfterOne else (if b == dash then InDashes else NoName)))
next_path AfterOne b = if is_lower b then InRun else (if b == underscore then BeforeRun else NoName)
next_path InDashes b = if is_lower b then InRun else (if b == dash then InDashes else NoName)
next_path NoName b = NoName

-- of a part of a host
abbrev pub next_label : Spot → ℕ → Spot
next_label BeforeRun b = if is_ascii_alphanumeric b then InRun else NoName
next_label InRun b = if is_ascii_alphanumeric b then InRun else (if b == dash then InDashes else NoName)
next_label AfterOne b = NoName
next_label InDashes b = if is_ascii_alphanumeric b then InRun else (if b == dash then InDashes else NoName)
next_label NoName b = NoName

abbrev pub ends_run : Spot → Bool
ends_run BeforeRun = false
ends_run InRun = true
ends_run AfterOne = false
ends_run InDashes = false
ends_run NoName = false

unfoldable pub is_ref_component : List ℕ → Bool
is_ref_component text = ends_run (fold next_ref BeforeRun text)

unfoldable pub is_path_component : List ℕ → Bool
is_path_component text = ends_run (fold next_path BeforeRun text)

unfoldable pub is_host_label : List ℕ → Bool
is_host_label text = ends_run (fold next_label BeforeRun text)
