-- Texts of a container's configuration (runtime specification, "Linux Container Configuration" and "Solaris Application Container Configuration").
use Rattle.std.specs.Prelude.{ℕ, ◌≡◌, ◌≢◌, ◌≤◌, ◌⊎◌, not, List, length, codes, IsTrue}
use Rattle.std.specs.Char.{is_ascii_digit, is_ascii_graphic}
use Rattle.oci_base.specs.Classes.{dot, colon, has, after, IsIn, IsSomeOf, IsMark, IsJoined}
use Rattle.oci_grammars.specs.Classes.{is_access_byte, is_capability_byte, is_context_byte, is_file_start, is_interface_byte, is_not_slash, is_scale}
use Rattle.oci_grammars.specs.Numbers.{IsNumberOrRange, IsPlainNumber}
use Rattle.oci_grammars.specs.Parts.{IsBehind, IsExtended, IsPair, IsRun}

-- `KB`, `MB` or `GB`
abbrev pub IsPageUnit : List ℕ → Type 0
IsPageUnit text = (text ≡ codes "KB") ⊎ ((text ≡ codes "MB") ⊎ (text ≡ codes "GB"))

-- a number without a zero in front, and a unit ("Huge page limits", `pageSize`: 64KB, 2MB, 1GB)
abbrev pub IsPageSize : List ℕ → Type 0
IsPageSize text = IsRun IsPlainNumber IsPageUnit text

-- user ":" role ":" type [":" level], graphic ASCII, of which the level alone may have ":" (selinux(8), security contexts)
abbrev pub IsSelinuxLabel : List ℕ → Type 0
IsSelinuxLabel text =
    IsPair colon (IsSomeOf is_context_byte) (IsPair colon (IsSomeOf is_context_byte) (IsExtended colon (IsSomeOf is_context_byte) (IsSomeOf is_ascii_graphic))) text

-- a CPU list that the kernel takes: numbers of 32 bits, and ranges that do not descend (Linux, lib/bitmap-str.c, bitmap_parselist: else EOVERFLOW, EINVAL)
abbrev pub IsAscendingCpuList : List ℕ → Type 0
IsAscendingCpuList text = IsJoined (IsMark 44) (IsNumberOrRange 0 4294967295) text

-- neither `.` nor `..`
abbrev pub IsNoDots : List ℕ → Type 0
IsNoDots text = (text ≢ codes ".") × (text ≢ codes "..")

-- 1 to 15 bytes that an interface's name may have (Linux, netdevice(7), IFNAMSIZ)
abbrev pub IsInterfaceName : List ℕ → Type 0
IsInterfaceName text = (IsSomeOf is_interface_byte text × (length text ≤ 15)) × IsNoDots text

-- the name of one directory ("Intel RDT", `closID`)
abbrev pub IsOneDirectory : List ℕ → Type 0
IsOneDirectory text = IsSomeOf is_not_slash text × IsNoDots text

-- a controller's file in a cgroup: a name, ".", and a name, without a slash (cgroup v2; "Unified", `unified`)
abbrev pub IsCgroupFile : List ℕ → Type 0
IsCgroupFile text = IsPair dot (IsSomeOf is_file_start) (IsSomeOf is_not_slash) text

-- not twice
abbrev pub IsOnceAtMost : ℕ → List ℕ → Type 0
IsOnceAtMost mark text = IsTrue (not (has mark (after mark text)))

-- some of `r`, `w` and `m`, each once at most ("Allowed Device list", `access`)
abbrev pub IsDeviceAccess : List ℕ → Type 0
IsDeviceAccess text = IsSomeOf is_access_byte text × (IsOnceAtMost 114 text × (IsOnceAtMost 119 text × IsOnceAtMost 109 text))

-- `CAP_` and a name of capitals and "_" ("Linux Features", `capabilities`)
abbrev pub IsCapabilityName : List ℕ → Type 0
IsCapabilityName text = IsBehind (codes "CAP_") (IsSomeOf is_capability_byte) text

-- nothing, or a scale: K, M, G, T, in any case
abbrev pub IsScale : List ℕ → Type 0
IsScale text = IsIn is_scale text × (length text ≤ 1)

-- digits, and perhaps a scale ("maxShmMemory", "cappedMemory": 512m)
abbrev pub IsScaledNumber : List ℕ → Type 0
IsScaledNumber text = IsRun (IsSomeOf is_ascii_digit) IsScale text

-- a whole number, a fraction (.75) or a mixed number (1.25): digits, or "." and digits with perhaps digits before it ("cappedCPU", `ncpus`)
abbrev pub IsDecimalNumber : List ℕ → Type 0
IsDecimalNumber text = IsSomeOf is_ascii_digit text ⊎ IsPair dot (IsIn is_ascii_digit) (IsSomeOf is_ascii_digit) text
