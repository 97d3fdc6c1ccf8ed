-- What a reference holds, and where it is pulled from (distribution specification, "Pulling manifests").
use Rattle.std.specs.Prelude.{ℕ, List, codes, bytes_eq, Option, unwrap_or, option_map, if◌then◌else◌}
use Rattle.oci_reference.specs.Names.{docker_io}

-- the parts of a reference
pub record Parts : Type 0 where
  pub registry : List ℕ
  pub repository : List ℕ
  pub tag : Option (List ℕ)
  pub digest : Option (List ℕ)
  pub mirror : Option (List ℕ)

-- the registry that is asked: the mirror if there is one, else another address for `docker.io`, else the registry
abbrev pub resolved : Parts → List ℕ
resolved r = unwrap_or r.mirror (if bytes_eq r.registry docker_io then codes "index.docker.io" else r.registry)

-- the registry, where a mirror is asked in its place
abbrev pub namespace : Parts → Option (List ℕ)
namespace r = option_map (λ _. r.registry) r.mirror
