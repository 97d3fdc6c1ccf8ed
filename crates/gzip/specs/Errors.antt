-- Which errors are those of the bytes (RFC 1952).
use Rattle.inflate.specs.Faults.{IsRefusal}
use Rattle.gzip.specs.declared.error.GzipError.{GzipError}
use Rattle.gzip.specs.declared.error.GzipError.TheVariants.{Header, HeaderChecksum, Text, Checksum, Length, TrailingData}

-- the bytes are refused
abbrev pub IsRefused : GzipError → Type 0
IsRefused Header = Unit {0}
IsRefused HeaderChecksum = Unit {0}
IsRefused (Text fault) = IsRefusal fault
IsRefused Checksum = Unit {0}
IsRefused Length = Unit {0}
IsRefused TrailingData = Unit {0}
