-- Which namespaces, masked and readonly paths a container has by default (runtime specification, "Linux Container Configuration", "Namespaces", "Masked Paths", "Readonly Paths").
use Rattle.std.specs.Prelude.{ℕ, List, [], ◌∷◌, map, codes}
use Rattle.oci_model.specs.Plain as plain
use Rattle.oci_model.specs.Plain.{Plain, document, slots, empty, filled, plains}
use Rattle.oci_text.specs.LinuxNamespaceType.{linux_namespace_type_name}
use Rattle.oci_text.specs.declared.linux_namespace_type.LinuxNamespaceType.{LinuxNamespaceType}
use Rattle.oci_text.specs.declared.linux_namespace_type.LinuxNamespaceType.TheVariants.{Mount, Cgroup, Uts, Ipc, User, Pid, Network}

-- a new namespace of a type: it has no path
abbrev pub new_namespace : LinuxNamespaceType → Plain
new_namespace t = document (slots (filled (plain.variant (linux_namespace_type_name t)) ∷ empty ∷ []))

abbrev pub new_namespaces : List LinuxNamespaceType → Plain
new_namespaces ts = plain.list (plains (map new_namespace ts))

-- those of a container that root starts
abbrev pub default_namespaces : Plain
default_namespaces = new_namespaces (Pid ∷ Network ∷ Ipc ∷ Uts ∷ Mount ∷ Cgroup ∷ [])

-- those of a container that another user starts: without a network of its own, and with users of its own
abbrev pub rootless_namespaces : Plain
rootless_namespaces = new_namespaces (Pid ∷ Ipc ∷ Uts ∷ Mount ∷ Cgroup ∷ User ∷ [])

abbrev pub texts : List (List ℕ) → Plain
texts ts = plain.list (plains (map plain.text ts))

-- the paths that the container cannot read
abbrev pub default_masked_paths : Plain
default_masked_paths = texts (
    codes "/proc/acpi"
    ∷ codes "/proc/asound"
    ∷ codes "/proc/kcore"
    ∷ codes "/proc/keys"
    ∷ codes "/proc/latency_stats"
    ∷ codes "/proc/timer_list"
    ∷ codes "/proc/timer_stats"
    ∷ codes "/proc/sched_debug"
    ∷ codes "/sys/firmware"
    ∷ codes "/proc/scsi"
    ∷ [])

-- the paths that the container cannot write to
abbrev pub default_readonly_paths : Plain
default_readonly_paths = texts (
    codes "/proc/bus"
    ∷ codes "/proc/fs"
    ∷ codes "/proc/irq"
    ∷ codes "/proc/sys"
    ∷ codes "/proc/sysrq-trigger"
    ∷ [])
