use Rattle.std.proofs.Common.{◌++◌, List, ℕ}
use Rattle.crc32.specs.Message.{Holds}
use Rattle.gzip.specs.Reading.{IsLeft}
use Rattle.gzip.proofs.ByteByByte.{IsTextSoFar}
use Rattle.gzip.proofs.bytes.skip_text.Given as goal

abbrev pub invariant-bytes : goal.invariant-bytes
invariant-bytes g l =
    (bytes m : List ℕ) → IsLeft (g.S.ByteSource.left l.initial.source) l.initial.hand bytes → Holds l.initial.crc m
    → (piece rest : List ℕ) × IsTextSoFar bytes piece rest × IsLeft (g.S.ByteSource.left l.source) l.hand rest × Holds l.crc (m ++ piece)
