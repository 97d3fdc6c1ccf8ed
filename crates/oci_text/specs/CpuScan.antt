-- One pass over a CPU list (Linux, cpuset(7), "List format").
use Rattle.std.specs.Prelude.{ℕ, ◌==◌, List, Bool, true, false, if◌then◌else◌}
use Rattle.std.specs.Char.{is_ascii_digit}
use Rattle.std.specs.List.{fold}
use Rattle.oci_base.specs.Classes.{dash}
use Rattle.oci_text.specs.declared.cpu_list.Place.{Place}
use Rattle.oci_text.specs.declared.cpu_list.Place.TheVariants.{BeforeLow, InLow, BeforeHigh, InHigh, NoList}

-- where one more byte leads
abbrev pub next_place : Place → ℕ → Place
next_place BeforeLow b = if is_ascii_digit b then InLow else NoList
next_place InLow b = if is_ascii_digit b then InLow else (if b == dash then BeforeHigh else (if b == 44 then BeforeLow else NoList))
next_place BeforeHigh b = if is_ascii_digit b then InHigh else NoList
next_place InHigh b = if is_ascii_digit b then InHigh else (if b == 44 then BeforeLow else NoList)
next_place NoList b = NoList

-- a list may end there
abbrev pub ends_list : Place → Bool
ends_list BeforeLow = false
ends_list InLow = true
ends_list BeforeHigh = false
ends_list InHigh = true
ends_list NoList = false

-- whether a text is a CPU list, as a computation
unfoldable pub is_cpu_text : List ℕ → Bool
is_cpu_text t = ends_list (fold next_place BeforeLow t)
