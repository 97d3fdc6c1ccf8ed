-- The words of levels and platforms.
use Rattle.std.specs.Prelude.{ℕ, List, codes, bytes_eq, Option, Some, None, if◌then◌else◌}
use Rattle.oci_rules.specs.Rules.{Level, must, stated, should, host, Platform, linux, windows, solaris, vm, zos, freebsd}

-- the level that a word names
abbrev pub level_named : List ℕ → Option Level
level_named t =
    if bytes_eq t (codes "must") then Some must
    else (if bytes_eq t (codes "stated") then Some stated
    else (if bytes_eq t (codes "should") then Some should
    else (if bytes_eq t (codes "host") then Some host
    else None)))

-- the platform that a word names
abbrev pub platform_named : List ℕ → Option Platform
platform_named t =
    if bytes_eq t (codes "linux") then Some linux
    else (if bytes_eq t (codes "windows") then Some windows
    else (if bytes_eq t (codes "solaris") then Some solaris
    else (if bytes_eq t (codes "vm") then Some vm
    else (if bytes_eq t (codes "zos") then Some zos
    else (if bytes_eq t (codes "freebsd") then Some freebsd
    else None)))))
