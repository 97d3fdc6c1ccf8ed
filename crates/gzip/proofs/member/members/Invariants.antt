use Rattle.std.proofs.Common.{◌≡◌, ◌++◌, List, [], ℕ, Some}
use Rattle.deflate.specs.Bits.{AreBelow}
use Rattle.gzip.specs.Reading.{IsLeft}
use Rattle.gzip.proofs.Members.{IsSoFar}
use Rattle.gzip.proofs.member.members.Given as goal

abbrev pub invariant-members : goal.invariant-members
invariant-members g l =
    (bytes t : List ℕ) → AreBelow 256 bytes → g.B.ByteSource.left l.fn.source ≡ Some bytes → g.S.Sink.holds l.fn.sink [] t
    → (text rest : List ℕ) × IsSoFar bytes rest text × IsLeft (g.B.ByteSource.left l.source) l.hand rest × g.S.Sink.holds l.sink [] (t ++ text)
