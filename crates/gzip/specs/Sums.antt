-- What a sink keeps of the text of a member (RFC 1952, 2.3.1: CRC32 and ISIZE).
use Rattle.std.specs.Prelude.{◌≡◌, ℕ, ◌%◌, ◌^◌, List, ◌++◌, length}
use Rattle.crc32.specs.Message.{Holds}
use Rattle.crc32.specs.declared.Crc32.{Crc32}

-- the sink below has taken the texts before and this one, of which the checksum and the length are kept
pub record HasSums (has_taken : List ℕ → Type 0) (crc : Crc32) (count : ℕ) (before text : List ℕ) : Type 0 where
  pub taken : has_taken (before ++ text)
  pub sum : Holds crc text
  pub size : count ≡ length text % 2 ^ 32
