-- The platforms that a rule is for.
use Rattle.std.specs.Prelude.{Bool, true, false, List, [], ◌∷◌}
use Rattle.std.specs.List.{list_any}
use Rattle.oci_rules.specs.Rules.{Platform, linux, windows, solaris, vm, zos, freebsd}

abbrev pub is_platform : Platform → Platform → Bool
is_platform linux linux = true
is_platform windows windows = true
is_platform solaris solaris = true
is_platform vm vm = true
is_platform zos zos = true
is_platform freebsd freebsd = true
is_platform p q = false

-- all platforms
abbrev pub every : List Platform
every = linux ∷ windows ∷ solaris ∷ vm ∷ zos ∷ freebsd ∷ []

-- the platform is one of these
abbrev pub is_for : Platform → List Platform → Bool
is_for p ps = list_any (is_platform p) ps
