-- What is at fault where a command is refused.
use Rattle.std.proofs.Common.{inl, inr, ℕ, List, Option}
use Rattle.oci_doc_run.specs.Commands.{Asked, norm, pretty, reference, digest, pin}
use Rattle.oci_doc_run.specs.Refusals.{Tells, HoldsOfDocument, HoldsOfReference, HoldsOfDigest, HoldsOfPin}
use Rattle.oci_doc_run.specs.declared.refusal.Refusal.{Refusal}
use Rattle.oci_doc_run.specs.declared.refusal.Refusal.TheVariants as refusal
use Rattle.oci_model.specs.Shape.{Shape}
use Rattle.oci_json.specs.Engines.{IsNoJson, IsNotNormalized}
use Rattle.std.specs.Prelude.{◌⊎◌, IfSome, Some, string_bytes}
use Rattle.oci_schemas.specs.Kinds.{shape_of}
use Rattle.oci_reference.specs.declared.error.ParseError.TheVariants as parse
use Rattle.oci_commands.specs.Refused.{IsFault, IsAtFault, IsNoReference, IsNoDigest, IsNoDescriptor}

of_reference : (text : List ℕ) (e : _) → HoldsOfReference text (refusal.Reference e) → IsFault (refusal.Reference e) → IsNoReference text
of_reference text parse.DigestInvalidFormat h f = absurd h
of_reference text parse.DigestInvalidLength h f = (parse.DigestInvalidLength, h)
of_reference text parse.DigestUnsupported h f = (parse.DigestUnsupported, h)
of_reference text parse.NameContainsUppercase h f = (parse.NameContainsUppercase, h)
of_reference text parse.NameEmpty h f = (parse.NameEmpty, h)
of_reference text parse.NameTooLong h f = (parse.NameTooLong, h)
of_reference text parse.ReferenceInvalidFormat h f = (parse.ReferenceInvalidFormat, h)
of_reference text parse.TagInvalidFormat h f = absurd h
of_reference text parse.Memory h f = absurd f

of_document : (s : Shape) (input : Option (List ℕ)) (r : Refusal) → HoldsOfDocument s input r → IsFault r → IfSome input IsNoJson ⊎ IfSome input (IsNotNormalized s)
of_document s input (refusal.Other said) h f = absurd h
of_document s input refusal.Io h f = absurd f
of_document s input refusal.Json h f = inl h
of_document s input refusal.Schema h f = inr h
of_document s input refusal.Builder h f = absurd h
of_document s input refusal.Memory h f = absurd f
of_document s input (refusal.Reference e) h f = absurd h

of_text : (text : List ℕ) (r : Refusal) → HoldsOfReference text r → IsFault r → IsNoReference text
of_text text (refusal.Other said) h f = absurd h
of_text text refusal.Io h f = absurd f
of_text text refusal.Json h f = absurd h
of_text text refusal.Schema h f = absurd h
of_text text refusal.Builder h f = absurd h
of_text text refusal.Memory h f = absurd f
of_text text (refusal.Reference e) h f = of_reference text e h f

of_digest : (text : List ℕ) (r : Refusal) → HoldsOfDigest text r → IsFault r → IsNoDigest text
of_digest text (refusal.Other said) h f = (string_bytes said, h)
of_digest text refusal.Io h f = absurd f
of_digest text refusal.Json h f = absurd h
of_digest text refusal.Schema h f = absurd h
of_digest text refusal.Builder h f = absurd h
of_digest text refusal.Memory h f = absurd f
of_digest text (refusal.Reference e) h f = absurd h

of_pin : (text bytes : List ℕ) (r : Refusal) → HoldsOfPin text (Some bytes) r → IsFault r → IsNoReference text ⊎ IsNoDescriptor bytes
of_pin text bytes (refusal.Other said) h f = absurd h
of_pin text bytes refusal.Io h f = absurd f
of_pin text bytes refusal.Json h f = inr (inl h)
of_pin text bytes refusal.Schema h f = inr (inr h)
of_pin text bytes refusal.Builder h f = absurd h
of_pin text bytes refusal.Memory h f = absurd f
of_pin text bytes (refusal.Reference e) h f = inl (of_reference text e h f)

pub at_fault : (asked : Asked) (bytes : List ℕ) (old new : Option (List ℕ)) (r : Refusal) → Tells asked (Some bytes) old new r → IsFault r → IsAtFault asked (Some bytes)
at_fault (norm kind) bytes old new r told f = of_document (shape_of kind) (Some bytes) r told.0 f
at_fault (pretty kind) bytes old new r told f = of_document (shape_of kind) (Some bytes) r told.0 f
at_fault (reference text) bytes old new r told f = of_text text r told.0 f
at_fault (digest text) bytes old new r told f = of_digest text r told.0 f
at_fault (pin text) bytes old new r told f = of_pin text bytes r told.0 f
