-- A text for which the status is that of no memory was accepted.
use Rattle.std.proofs.Common.{◌≡◌, ℕ, List, arith}
use Rattle.oci_reference.specs.Accepted.{Accepted, Tells}
use Rattle.oci_reference.specs.Parts.{Parts}
use Rattle.oci_reference.specs.declared.error.ParseError.{ParseError}
use Rattle.oci_reference.specs.declared.error.ParseError.TheVariants.{DigestInvalidFormat, DigestInvalidLength, DigestUnsupported, NameContainsUppercase, NameEmpty, NameTooLong, ReferenceInvalidFormat, TagInvalidFormat, Memory}
use Rattle.oci_ffi.specs.References.{status_numbered}

pub accepted_without_memory : (text : List ℕ) (e : ParseError) → status_numbered e ≡ 2 → Tells text e → (p : Parts) × Accepted text p
accepted_without_memory text Memory is told = told
accepted_without_memory text NameEmpty is told = absurd (omega (arith, is))
accepted_without_memory text NameContainsUppercase is told = absurd (omega (arith, is))
accepted_without_memory text NameTooLong is told = absurd (omega (arith, is))
accepted_without_memory text TagInvalidFormat is told = absurd (omega (arith, is))
accepted_without_memory text DigestInvalidFormat is told = absurd (omega (arith, is))
accepted_without_memory text DigestInvalidLength is told = absurd (omega (arith, is))
accepted_without_memory text DigestUnsupported is told = absurd (omega (arith, is))
accepted_without_memory text ReferenceInvalidFormat is told = absurd (omega (arith, is))
