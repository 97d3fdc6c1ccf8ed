-- How a rule for devices and the priority of an interface are displayed (runtime specification, "Linux Container Configuration",
-- "Allowed Device list" and "Network", `priorities`).
use Rattle.std.specs.Prelude.{ℕ, ℤ, List, [], ◌++◌, Option, Some, None, codes, string_bytes, option_map, unwrap_or, decimal}
use Rattle.std.specs.Fmt.{signed_decimal}
use Rattle.oci_text.specs.LinuxDeviceType.{linux_device_type_name}
use Rattle.oci_cgroups.specs.declared.linux_device_cgroup.LinuxDeviceCgroup.{LinuxDeviceCgroup}
use Rattle.oci_cgroups.specs.declared.linux_interface_priority.LinuxInterfacePriority.{LinuxInterfacePriority}

-- a number, or a star for all of them
abbrev pub or_all : Option ℤ → List ℕ
or_all None = codes "*"
or_all (Some n) = signed_decimal n

-- the type, or `a` for all; the major and the minor number with a colon between; the access, or nothing; a space between each
abbrev pub rule_line : LinuxDeviceCgroup → List ℕ
rule_line x =
    unwrap_or (option_map linux_device_type_name x.typ) (codes "a")
    ++ (codes " " ++ (or_all x.major ++ (codes ":" ++ (or_all x.minor ++ (codes " " ++ unwrap_or (option_map string_bytes x.access) [])))))

-- the interface's name, a space, the priority and a line feed
abbrev pub priority_line : LinuxInterfacePriority → List ℕ
priority_line x = string_bytes x.name ++ (codes " " ++ (decimal x.priority ++ codes "\n"))
