-- A checksum that is made piece by piece (RFC 1952, section 8).
use Rattle.std.specs.Prelude.{◌≡◌, ℕ, List}
use Rattle.crc32.specs.Step.{after, ones}
use Rattle.crc32.specs.declared.Crc32.{Crc32}

-- it has taken this message
abbrev pub Holds : Crc32 → List ℕ → Type 0
Holds s message = s.register ≡ after ones message
