-- Which texts an affinity may have (runtime specification, "Configuration", "Linux Process", `execCPUAffinity`).
use Rattle.std.specs.Prelude.{◌≡◌, ◌⊎◌, ℕ, List, Option, Some, None, String, string_bytes, ⊤}
use Rattle.std.specs.declared.alloc.Global.{Global}
use Rattle.oci_base.specs.CpuList.{IsCpuList}

-- no text, or a list of processors
abbrev pub IsListIfGiven : Option (String Global) → Type 0
IsListIfGiven None = ⊤
IsListIfGiven (Some t) = IsCpuList (string_bytes t)

-- this text, which is no list of processors
abbrev pub IsOtherText : Option (String Global) → List ℕ → Type 0
IsOtherText None text = ⊥
IsOtherText (Some t) text = (string_bytes t ≡ text) × ¬ IsCpuList text

-- both are accepted
abbrev pub AreLists : Option (String Global) → Option (String Global) → Type 0
AreLists initial last = IsListIfGiven initial × IsListIfGiven last

-- the first of the two texts that is no list of processors
abbrev pub IsFirstOther : Option (String Global) → Option (String Global) → List ℕ → Type 0
IsFirstOther initial last text = IsOtherText initial text ⊎ (IsListIfGiven initial × IsOtherText last text)
