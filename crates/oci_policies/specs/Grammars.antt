-- The grammars by the names that policies give them (`format`).
use Rattle.std.specs.Prelude.{ℕ, List, [], ◌∷◌, codes, bytes_eq, Option, Some, None, option_and_then, if◌then◌else◌}
use Rattle.toml.specs.Data.{Data, as_str}
use Rattle.oci_grammars.specs.declared.grammar.Grammar.{Grammar}
use Rattle.oci_grammars.specs.declared.grammar.Grammar.TheVariants as grammar

abbrev pub grammars : List (List ℕ × Grammar)
grammars =
    (codes "absolute-path", grammar.AbsolutePath) ∷
    (codes "ascending-cpu-list", grammar.AscendingCpuList) ∷
    (codes "base64", grammar.Base64) ∷
    (codes "capability-name", grammar.CapabilityName) ∷
    (codes "cgroup-file", grammar.CgroupFile) ∷
    (codes "cpu-list", grammar.CpuList) ∷
    (codes "date-time", grammar.DateTime) ∷
    (codes "decimal-number", grammar.DecimalNumber) ∷
    (codes "device-access", grammar.DeviceAccess) ∷
    (codes "digest", grammar.Digest) ∷
    (codes "domain", grammar.Domain) ∷
    (codes "environment-entry", grammar.EnvironmentEntry) ∷
    (codes "exposed-ports", grammar.ExposedPorts) ∷
    (codes "full-reference", grammar.FullReference) ∷
    (codes "guid", grammar.Guid) ∷
    (codes "http-uri", grammar.HttpUri) ∷
    (codes "interface-name", grammar.InterfaceName) ∷
    (codes "local-directory", grammar.LocalDirectory) ∷
    (codes "media-type", grammar.MediaType) ∷
    (codes "no-nul", grammar.NoNul) ∷
    (codes "no-parent", grammar.NoParent) ∷
    (codes "one-directory", grammar.OneDirectory) ∷
    (codes "one-line", grammar.OneLine) ∷
    (codes "page-size", grammar.PageSize) ∷
    (codes "port", grammar.Port) ∷
    (codes "portable-entry", grammar.PortableEntry) ∷
    (codes "ref-name", grammar.RefName) ∷
    (codes "ref-name-characters", grammar.RefNameCharacters) ∷
    (codes "reference", grammar.Reference) ∷
    (codes "repository", grammar.Repository) ∷
    (codes "reverse-domain", grammar.ReverseDomain) ∷
    (codes "rootfs-path", grammar.RootfsPath) ∷
    (codes "scaled-number", grammar.ScaledNumber) ∷
    (codes "selinux-label", grammar.SelinuxLabel) ∷
    (codes "semver", grammar.SemVer) ∷
    (codes "signal", grammar.Signal) ∷
    (codes "spdx-expression", grammar.SpdxExpression) ∷
    (codes "tag", grammar.Tag) ∷
    (codes "uri", grammar.Uri) ∷
    (codes "user", grammar.User) ∷
    (codes "volume-guid-path", grammar.VolumeGuidPath) ∷
    (codes "windows-path", grammar.WindowsPath)
    ∷ []

-- what stands beside a name
abbrev pub named : {A : Type 0} → List (List ℕ × A) → List ℕ → Option A
named [] t = None
named (row ∷ rows) t = if bytes_eq t row.0 then Some row.1 else named rows t

unfoldable pub grammar_in : Data → Option Grammar
grammar_in d = option_and_then (named grammars) (as_str d)
