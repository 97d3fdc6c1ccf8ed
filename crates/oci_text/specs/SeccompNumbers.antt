-- The return values of a seccomp filter (runtime specification, "Linux Container Configuration", "Seccomp", `action`).
use Rattle.std.specs.Prelude.{ℕ, Option, bit_or, unwrap_or}
use Rattle.oci_text.specs.declared.linux_seccomp_action.LinuxSeccompAction.{LinuxSeccompAction}
use Rattle.oci_text.specs.declared.linux_seccomp_action.LinuxSeccompAction.TheVariants.{ScmpActKill, ScmpActKillThread, ScmpActKillProcess, ScmpActTrap, ScmpActErrno, ScmpActNotify, ScmpActTrace, ScmpActLog, ScmpActAllow}

-- the number for an action, which in two cases has the number that is passed on in its low bits, or 1 where none is given.
-- Beside each is the kernel's name for it in `linux/seccomp.h`.
abbrev pub filter_number : LinuxSeccompAction → Option ℕ → ℕ
-- SECCOMP_RET_KILL and SECCOMP_RET_KILL_THREAD, 0
filter_number ScmpActKill n = 0
filter_number ScmpActKillThread n = 0
-- SECCOMP_RET_KILL_PROCESS, 0x80000000
filter_number ScmpActKillProcess n = 2147483648
-- SECCOMP_RET_TRAP, 0x00030000
filter_number ScmpActTrap n = 196608
-- SECCOMP_RET_ERRNO, 0x00050000
filter_number ScmpActErrno n = bit_or 327680 (unwrap_or n 1)
-- SECCOMP_RET_USER_NOTIF, 0x7fc00000
filter_number ScmpActNotify n = 2143289344
-- SECCOMP_RET_TRACE, 0x7ff00000
filter_number ScmpActTrace n = bit_or 2146435072 (unwrap_or n 1)
-- SECCOMP_RET_LOG, 0x7ffc0000
filter_number ScmpActLog n = 2147221504
-- SECCOMP_RET_ALLOW, 0x7fff0000
filter_number ScmpActAllow n = 2147418112
