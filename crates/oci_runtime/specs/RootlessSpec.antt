-- What the specification of a container is that a user without privileges starts (runtime specification, "Configuration"; "Linux Container Configuration", "User namespace mappings").
use Rattle.std.specs.Prelude.{ℕ, [], ◌∷◌, codes}
use Rattle.oci_model.specs.Plain as plain
use Rattle.oci_model.specs.Plain.{Plain, document, slots, empty, filled}
use Rattle.oci_process.specs.Process.{default_process}
use Rattle.oci_linux.specs.Rootless.{rootless_linux}
use Rattle.oci_runtime_records.specs.DefaultMounts.{rootless_mounts}
use Rattle.oci_runtime_records.specs.Root.{default_root}

-- the default, but with the rootless mounts and the rootless Linux part
abbrev pub rootless_spec : ℕ → ℕ → Plain
rootless_spec uid gid = document (slots (
    filled (plain.text (codes "1.0.2-dev"))
    ∷ filled default_root
    ∷ filled rootless_mounts
    ∷ filled default_process
    ∷ filled (plain.text (codes "youki"))
    ∷ empty
    ∷ empty
    ∷ filled (plain.map plain.no_entries)
    ∷ filled (rootless_linux uid gid)
    ∷ empty
    ∷ empty
    ∷ empty
    ∷ empty
    ∷ empty
    ∷ empty
    ∷ []))
