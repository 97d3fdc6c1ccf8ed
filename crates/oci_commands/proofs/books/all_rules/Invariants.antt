use Rattle.std.proofs.Common.{[], ℕ, List, drop, string_bytes}
use Rattle.oci_findings.specs.FoundKind.{all_kinds}
use Rattle.oci_commands.specs.Books.{Sections}
use Rattle.oci_commands.proofs.books.all_rules.Given as goal

-- what comes behind what there is comes behind nothing
abbrev pub invariant-loop-kind : goal.invariant-loop-kind
invariant-loop-kind g l = (after : List ℕ) → Sections (g.B.RuleBooks.rules l.books) (drop l.kind-index all_kinds) (string_bytes l.text) after → Sections (g.B.RuleBooks.rules l.books) all_kinds [] after
