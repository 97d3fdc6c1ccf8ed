-- What a default process has (runtime specification, "Configuration", "Process", "POSIX process").
use Rattle.std.specs.Prelude.{[], ◌∷◌, codes, pos}
use Rattle.oci_model.specs.Plain.{Plain, document, filled, list, plains, slots, text, variant, whole}
use Rattle.oci_text.specs.PosixRlimitType.{posix_rlimit_type_name}
use Rattle.oci_text.specs.declared.posix_rlimit_type.PosixRlimitType.TheVariants.{RlimitNofile}

-- a shell
abbrev pub default_args : Plain
default_args = list (plains (text (codes "sh") ∷ []))

-- the root of the container
abbrev pub default_cwd : Plain
default_cwd = text (codes "/")

-- where programs are found, and the kind of terminal
abbrev pub default_env : Plain
default_env = list (plains (text (codes "PATH=/usr/local/sbin:/usr/local/bin:/usr/sbin:/usr/bin:/sbin:/bin") ∷ text (codes "TERM=xterm") ∷ []))

-- one limit: at most 1024 file descriptors
abbrev pub default_rlimits : Plain
default_rlimits = list (plains (document (slots (filled (variant (posix_rlimit_type_name RlimitNofile)) ∷ filled (whole (pos 1024)) ∷ filled (whole (pos 1024)) ∷ [])) ∷ []))
