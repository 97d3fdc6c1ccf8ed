-- Registry and repository of a name (distribution specification, "Pulling manifests"; the defaults as in CNCF Distribution's reference names).
use Rattle.std.specs.Prelude.{ℕ, ◌&&◌, ◌||◌, Bool, not, List, ◌++◌, codes, bytes_eq, if◌then◌else◌}
use Rattle.oci_base.specs.Classes.{has, until, after, dot, slash, colon}

-- the registry of a name that names none
abbrev pub docker_io : List ℕ
docker_io = codes "docker.io"

-- whether what stands before the first slash is a registry
abbrev pub is_registry : List ℕ → Bool
is_registry text = has dot text || has colon text || bytes_eq text (codes "localhost")

-- the registry that a name begins with, if it does, and what remains
abbrev pub cut_name : List ℕ → List ℕ × List ℕ
cut_name name = if has slash name && is_registry (until slash name) then (until slash name, after slash name) else (docker_io, name)

-- the registry by its usual name
abbrev pub usual_registry : List ℕ → List ℕ
usual_registry registry = if bytes_eq registry (codes "index.docker.io") then docker_io else registry

-- in `docker.io` a repository of one component is in `library/`
abbrev pub with_library : List ℕ → List ℕ → List ℕ × List ℕ
with_library registry rest = if bytes_eq registry docker_io && not (has slash rest) then (registry, codes "library/" ++ rest) else (registry, rest)

-- registry and repository
abbrev pub default_name : List ℕ → List ℕ × List ℕ
default_name name = with_library (usual_registry (cut_name name).0) (cut_name name).1
