-- Two files that gzip made.
use Rattle.std.proofs.Common.{ℕ, false, List, [], ◌∷◌, ◌++◌, replicate, None, refl, arith}
use Rattle.std.proofs.Common.{sym, append-nil}
use Rattle.crc32.specs.Step.{after, times_power}
use Rattle.deflate.specs.Bits.{AreBelow}
use Rattle.deflate.specs.Deflate.{Denotes}
use Rattle.deflate.proofs.Examples.{empty_stream, ten_times}
use Rattle.gzip.specs.Gzip.{Header, IsHeader, IsMember, trailer, AreMembers, joined, IsGzip}
use Rattle.gzip.proofs.Behind.{denotes_more}

-- with no name and no time, on Unix
plain : Header
plain = record { is_text = false; times = 0 ∷ 0 ∷ 0 ∷ 0 ∷ 0 ∷ 3 ∷ []; extra = None; name = None; comment = None; has_checksum = false }

plain_is : IsHeader plain
unfolding plain AreBelow
plain_is = record { six = refl; times = (omega arith, (omega arith, (omega arith, (omega arith, (omega arith, (omega arith, tt)))))); extra = tt; name = tt; comment = tt }

one_file : (bytes text : List ℕ) → IsMember bytes text [] → IsGzip bytes text
unfolding AreMembers joined
one_file bytes text m = (text, [], ([], m, refl), sym (append-nil text))

pub empty_file : IsGzip (0x1f ∷ 0x8b ∷ 8 ∷ 0 ∷ 0 ∷ 0 ∷ 0 ∷ 0 ∷ 0 ∷ 3 ∷ 3 ∷ 0 ∷ 0 ∷ 0 ∷ 0 ∷ 0 ∷ 0 ∷ 0 ∷ 0 ∷ 0 ∷ []) []
unfolding plain after
empty_file =
    let stream : List ℕ = 3 ∷ 0 ∷ 0 ∷ 0 ∷ 0 ∷ 0 ∷ 0 ∷ 0 ∷ 0 ∷ 0 ∷ [] in
    let d : Denotes stream [] (trailer [] ++ []) = denotes_more (3 ∷ 0 ∷ []) [] [] (trailer [] ++ []) empty_stream in
    one_file (31 ∷ 139 ∷ 8 ∷ 0 ∷ 0 ∷ 0 ∷ 0 ∷ 0 ∷ 0 ∷ 3 ∷ stream) [] (plain, stream, plain_is, refl, d)

pub ten_letters : IsGzip (0x1f ∷ 0x8b ∷ 8 ∷ 0 ∷ 0 ∷ 0 ∷ 0 ∷ 0 ∷ 0 ∷ 3 ∷ 0x4b ∷ 0x4c ∷ 0x84 ∷ 1 ∷ 0 ∷ 0xf0 ∷ 0xcd ∷ 0x11 ∷ 0x4c ∷ 10 ∷ 0 ∷ 0 ∷ 0 ∷ []) (replicate 10 97)
unfolding plain after times_power
ten_letters =
    let text : List ℕ = replicate 10 97 in
    let stream : List ℕ = 0x4b ∷ 0x4c ∷ 0x84 ∷ 1 ∷ 0 ∷ 0xf0 ∷ 0xcd ∷ 0x11 ∷ 0x4c ∷ 10 ∷ 0 ∷ 0 ∷ 0 ∷ [] in
    let d : Denotes stream text (trailer text ++ []) = denotes_more (0x4b ∷ 0x4c ∷ 0x84 ∷ 0x01 ∷ 0x00 ∷ []) text [] (trailer text ++ []) ten_times in
    one_file (31 ∷ 139 ∷ 8 ∷ 0 ∷ 0 ∷ 0 ∷ 0 ∷ 0 ∷ 0 ∷ 3 ∷ stream) text (plain, stream, plain_is, refl, d)
