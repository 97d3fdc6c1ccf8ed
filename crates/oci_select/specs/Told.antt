-- The private types of the code, in the terms of these definitions.
use Rattle.std.specs.Prelude.{ℕ, List, Option, map, option_map}
use Rattle.std.specs.Borrow.{Bor}
use Rattle.oci_select.specs.Normal.{Names, lower}
use Rattle.oci_select.specs.declared.normal.Alias.{Alias}
use Rattle.oci_select.specs.declared.normal.PlatformNames.{PlatformNames}

-- the names of a table and what they mean
abbrev pub rows : List Alias → List (List ℕ × List ℕ)
rows table = map (λ alias. (lower alias.name.now, lower alias.meaning.now)) table

-- names but for their case
abbrev pub lowered : Option (Bor (List ℕ)) → Option (List ℕ)
lowered text = option_map (λ t. lower t.now) text

abbrev pub texts : List (Bor (List ℕ)) → List (List ℕ)
texts list = map (λ t. lower t.now) list

abbrev pub told : PlatformNames → Names
told n = record { os = lower n.os.now; architecture = lower n.architecture.now; variant = lower n.variant.now }
