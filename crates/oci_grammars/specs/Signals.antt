-- Signals (Linux, signal(7), "Standard signals", "Signal numbering for standard signals" and "Real-time signals"; image specification, "Image Configuration",
-- `StopSignal`), in any case and with or without `SIG`, as runtimes read them.
use Rattle.std.specs.Prelude.{ℕ, ◌≤◌, ◌⊎◌, List, [], ◌∷◌, codes}
use Rattle.oci_base.specs.Classes.{plus, dash}
use Rattle.oci_grammars.specs.Numbers.{number_of, IsPlainNumber}
use Rattle.oci_grammars.specs.Parts.{IsPair, IsRun}
use Rattle.oci_grammars.specs.Uris.{IsAnyCase, IsWordOf}

-- the names of signal(7) without `SIG`, and those of the first and the last real-time signal
abbrev pub signal_words : List (List ℕ)
signal_words =
    codes "ABRT" ∷
    codes "ALRM" ∷
    codes "BUS" ∷
    codes "CHLD" ∷
    codes "CLD" ∷
    codes "CONT" ∷
    codes "EMT" ∷
    codes "FPE" ∷
    codes "HUP" ∷
    codes "ILL" ∷
    codes "INFO" ∷
    codes "INT" ∷
    codes "IO" ∷
    codes "IOT" ∷
    codes "KILL" ∷
    codes "LOST" ∷
    codes "PIPE" ∷
    codes "POLL" ∷
    codes "PROF" ∷
    codes "PWR" ∷
    codes "QUIT" ∷
    codes "RTMAX" ∷
    codes "RTMIN" ∷
    codes "SEGV" ∷
    codes "STKFLT" ∷
    codes "STOP" ∷
    codes "SYS" ∷
    codes "TERM" ∷
    codes "TRAP" ∷
    codes "TSTP" ∷
    codes "TTIN" ∷
    codes "TTOU" ∷
    codes "UNUSED" ∷
    codes "URG" ∷
    codes "USR1" ∷
    codes "USR2" ∷
    codes "VTALRM" ∷
    codes "WINCH" ∷
    codes "XCPU" ∷
    codes "XFSZ" ∷
    []

-- a number without a zero in front, and no larger than this
abbrev pub IsPlainUpTo : ℕ → List ℕ → Type 0
IsPlainUpTo high text = IsPlainNumber text × (number_of text ≤ high)

-- a real-time signal, counted from the first up or from the last down, of which there are 31
abbrev pub IsRealTime : List ℕ → Type 0
IsRealTime text = IsPair plus (IsAnyCase (codes "RTMIN")) (IsPlainUpTo 30) text ⊎ IsPair dash (IsAnyCase (codes "RTMAX")) (IsPlainUpTo 30) text

-- a name without `SIG`
abbrev pub IsBareSignal : List ℕ → Type 0
IsBareSignal text = IsWordOf signal_words text ⊎ IsRealTime text

-- the same, or `SIG` before it
abbrev pub IsSignalName : List ℕ → Type 0
IsSignalName text = IsBareSignal text ⊎ IsRun (IsAnyCase (codes "SIG")) IsBareSignal text

-- a signal by its name, or by its number from 1 to 64 without a zero in front (Linux, SIGRTMAX)
abbrev pub IsSignal : List ℕ → Type 0
IsSignal text = IsSignalName text ⊎ IsPlainUpTo 64 text
