-- The capabilities of Linux (runtime specification, "Configuration", "Linux Process", `capabilities`).
use Rattle.std.specs.Prelude.{◌≡◌, ◌↔◌, ℕ, List, [], ◌∷◌, true, Some, codes, map, refl}
use denote.Enum.Bare.{sameb}
use Rattle.oci_model.specs.Variants.{variant_of, told_by_name}
use Rattle.oci_text.specs.contracts.capability.Capability.{the_type}
use Rattle.oci_text.specs.declared.capability.Capability.{Capability}
use Rattle.oci_text.specs.declared.capability.Capability.TheVariants.{AuditControl, AuditRead, AuditWrite, BlockSuspend, Bpf, CheckpointRestore, Chown, DacOverride, DacReadSearch, Fowner, Fsetid, IpcLock, IpcOwner, Kill, Lease, LinuxImmutable, MacAdmin, MacOverride, Mknod, NetAdmin, NetBindService, NetBroadcast, NetRaw, Perfmon, Setgid, Setfcap, Setpcap, Setuid, SysAdmin, SysBoot, SysChroot, SysModule, SysNice, SysPacct, SysPtrace, SysRawio, SysResource, SysTime, SysTtyConfig, Syslog, WakeAlarm}

-- the variants and their names
abbrev pub capability_name : Capability → List ℕ
capability_name AuditControl = codes "AUDIT_CONTROL"
capability_name AuditRead = codes "AUDIT_READ"
capability_name AuditWrite = codes "AUDIT_WRITE"
capability_name BlockSuspend = codes "BLOCK_SUSPEND"
capability_name Bpf = codes "BPF"
capability_name CheckpointRestore = codes "CHECKPOINT_RESTORE"
capability_name Chown = codes "CHOWN"
capability_name DacOverride = codes "DAC_OVERRIDE"
capability_name DacReadSearch = codes "DAC_READ_SEARCH"
capability_name Fowner = codes "FOWNER"
capability_name Fsetid = codes "FSETID"
capability_name IpcLock = codes "IPC_LOCK"
capability_name IpcOwner = codes "IPC_OWNER"
capability_name Kill = codes "KILL"
capability_name Lease = codes "LEASE"
capability_name LinuxImmutable = codes "LINUX_IMMUTABLE"
capability_name MacAdmin = codes "MAC_ADMIN"
capability_name MacOverride = codes "MAC_OVERRIDE"
capability_name Mknod = codes "MKNOD"
capability_name NetAdmin = codes "NET_ADMIN"
capability_name NetBindService = codes "NET_BIND_SERVICE"
capability_name NetBroadcast = codes "NET_BROADCAST"
capability_name NetRaw = codes "NET_RAW"
capability_name Perfmon = codes "PERFMON"
capability_name Setgid = codes "SETGID"
capability_name Setfcap = codes "SETFCAP"
capability_name Setpcap = codes "SETPCAP"
capability_name Setuid = codes "SETUID"
capability_name SysAdmin = codes "SYS_ADMIN"
capability_name SysBoot = codes "SYS_BOOT"
capability_name SysChroot = codes "SYS_CHROOT"
capability_name SysModule = codes "SYS_MODULE"
capability_name SysNice = codes "SYS_NICE"
capability_name SysPacct = codes "SYS_PACCT"
capability_name SysPtrace = codes "SYS_PTRACE"
capability_name SysRawio = codes "SYS_RAWIO"
capability_name SysResource = codes "SYS_RESOURCE"
capability_name SysTime = codes "SYS_TIME"
capability_name SysTtyConfig = codes "SYS_TTY_CONFIG"
capability_name Syslog = codes "SYSLOG"
capability_name WakeAlarm = codes "WAKE_ALARM"

-- all variants, and their names
abbrev pub all_capability : List Capability
all_capability = AuditControl ∷ AuditRead ∷ AuditWrite ∷ BlockSuspend ∷ Bpf ∷ CheckpointRestore ∷ Chown ∷ DacOverride ∷ DacReadSearch ∷ Fowner ∷ Fsetid ∷ IpcLock ∷ IpcOwner ∷ Kill ∷ Lease ∷ LinuxImmutable ∷ MacAdmin ∷ MacOverride ∷ Mknod ∷ NetAdmin ∷ NetBindService ∷ NetBroadcast ∷ NetRaw ∷ Perfmon ∷ Setgid ∷ Setfcap ∷ Setpcap ∷ Setuid ∷ SysAdmin ∷ SysBoot ∷ SysChroot ∷ SysModule ∷ SysNice ∷ SysPacct ∷ SysPtrace ∷ SysRawio ∷ SysResource ∷ SysTime ∷ SysTtyConfig ∷ Syslog ∷ WakeAlarm ∷ []

abbrev pub capability_table : List (List ℕ)
capability_table = map capability_name all_capability

-- a name leads back to its variant
pub capability_back : (x : Capability) → variant_of capability_name all_capability (capability_name x) ≡ Some x
capability_back AuditControl = refl
capability_back AuditRead = refl
capability_back AuditWrite = refl
capability_back BlockSuspend = refl
capability_back Bpf = refl
capability_back CheckpointRestore = refl
capability_back Chown = refl
capability_back DacOverride = refl
capability_back DacReadSearch = refl
capability_back Fowner = refl
capability_back Fsetid = refl
capability_back IpcLock = refl
capability_back IpcOwner = refl
capability_back Kill = refl
capability_back Lease = refl
capability_back LinuxImmutable = refl
capability_back MacAdmin = refl
capability_back MacOverride = refl
capability_back Mknod = refl
capability_back NetAdmin = refl
capability_back NetBindService = refl
capability_back NetBroadcast = refl
capability_back NetRaw = refl
capability_back Perfmon = refl
capability_back Setgid = refl
capability_back Setfcap = refl
capability_back Setpcap = refl
capability_back Setuid = refl
capability_back SysAdmin = refl
capability_back SysBoot = refl
capability_back SysChroot = refl
capability_back SysModule = refl
capability_back SysNice = refl
capability_back SysPacct = refl
capability_back SysPtrace = refl
capability_back SysRawio = refl
capability_back SysResource = refl
capability_back SysTime = refl
capability_back SysTtyConfig = refl
capability_back Syslog = refl
capability_back WakeAlarm = refl

-- variants are equal exactly if their names are
pub capability_same : (x y : Capability) → (sameb the_type x y ≡ true) ↔ (capability_name x ≡ capability_name y)
capability_same = told_by_name the_type tt capability_name all_capability capability_back
