use Rattle.std.proofs.Common.{ℕ, List}
use Rattle.std.specs.Io.KnownBytes.{Consumes}
use Rattle.oci_content.specs.Hashing.{Holds}
use Rattle.oci_content.proofs.hasher.digest_of_reader.Given as goal

-- what was taken is what the reader gave; at the end nothing is left
abbrev pub invariant-pieces : goal.invariant-pieces
invariant-pieces g l = (taken : List ℕ) × Holds l.fn.algorithm l.hasher taken
    × Consumes (g.R.Read.remaining l.initial.reader) (g.R.Read.remaining l.reader) taken
