-- The platform that the configuration of a container is for, as its parts say (runtime specification, "Configuration", "Platform-specific configuration").
use Rattle.std.specs.Prelude.{◌&&◌, codes, if◌then◌else◌}
use Rattle.serde_json.specs.Data.{Data}
use Rattle.oci_rules.specs.Rules.{Platform, linux, windows, solaris, vm, zos, freebsd}
use Rattle.oci_rules.specs.Decided.{has, lacks}

-- that of a part which is there; that of Windows or of a virtual machine where none of Linux is beside it (a Linux container on Windows has both); else Linux
abbrev pub platform_in : Data → Platform
platform_in d =
    if has d (codes "windows") && lacks d (codes "linux") then windows else if has d (codes "zos") then zos else if has d (codes "solaris") then solaris else if has d (codes "freebsd") then freebsd
    else if has d (codes "vm") && lacks d (codes "linux") then vm else linux
