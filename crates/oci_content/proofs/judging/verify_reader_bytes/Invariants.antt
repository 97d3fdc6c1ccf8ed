use Rattle.std.proofs.Common.{◌≡◌, ℕ, ◌+◌, List, length}
use Rattle.std.specs.Io.KnownBytes.{Consumes}
use Rattle.oci_content.specs.Hashing.{Takes}
use Rattle.oci_content.proofs.judging.verify_reader_bytes.Given as goal

-- what was taken is what the reader gave, and what is left of the size is what it lacks
abbrev pub invariant-pieces : goal.invariant-pieces
invariant-pieces g l = (taken : List ℕ) × Takes l.digest l.intake taken
    × Consumes (g.R.Read.remaining l.initial.reader) (g.R.Read.remaining l.reader) taken × (length taken + l.left ≡ l.size)

abbrev pub decreases-pieces : goal.decreases-pieces
decreases-pieces g l = l.left
