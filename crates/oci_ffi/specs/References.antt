-- What is returned for a reference.
use Rattle.std.specs.Prelude.{ℕ, [], length, unwrap_or}
use Rattle.oci_reference.specs.Parts.{Parts}
use Rattle.oci_reference.specs.declared.error.ParseError.{ParseError}
use Rattle.oci_reference.specs.declared.error.ParseError.TheVariants.{DigestInvalidFormat, DigestInvalidLength, DigestUnsupported, NameContainsUppercase, NameEmpty, NameTooLong, ReferenceInvalidFormat, TagInvalidFormat, Memory}
use Rattle.oci_ffi.specs.declared.reference.CiderglenReference.{CiderglenReference}

-- the lengths of the parts in the whole text, 0 for one that is missing
abbrev pub lengths : Parts → CiderglenReference
lengths p = record {
  registry = length p.registry;
  repository = length p.repository;
  tag = length (unwrap_or p.tag []);
  digest = length (unwrap_or p.digest []);
}

-- the status of an error
abbrev pub status_numbered : ParseError → ℕ
status_numbered Memory = 2
status_numbered NameEmpty = 16
status_numbered NameContainsUppercase = 17
status_numbered NameTooLong = 18
status_numbered TagInvalidFormat = 19
status_numbered DigestInvalidFormat = 20
status_numbered DigestInvalidLength = 21
status_numbered DigestUnsupported = 22
status_numbered ReferenceInvalidFormat = 23
