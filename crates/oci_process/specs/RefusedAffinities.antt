-- The errors of the builder of an affinity (runtime specification, "Configuration", "Linux Process", `execCPUAffinity`).
use Rattle.std.specs.Prelude.{ℕ, List, ◌++◌, codes}

-- the text that is no list of processors is named
abbrev pub affinity_refusal : List ℕ → List ℕ
affinity_refusal text = codes "Invalid execCPUAffinity format: " ++ text
