-- What a command wrote to a buffer, and what is then written of it.
use Rattle.std.proofs.Common.{[], ℕ, List, Option, Some, subst}
use Rattle.std.specs.Io.KnownBytes.{Appends}
use Rattle.oci_schemas.specs.Kinds.{shape_of}
use Rattle.oci_doc_run.specs.Commands.{Asked, norm, pretty, reference, digest, pin}
use Rattle.oci_doc_run.specs.Outputs.{Writes}
use Rattle.oci_commands.proofs.Held.{document_written, pretty_written}

moved : (asked : Asked) (input : Option (List ℕ)) (V W : List ℕ → Type 0) → ((t : List ℕ) → V t → W t) → Writes asked input V → Writes asked input W
moved (norm kind) input V W f h = document_written (shape_of kind) input V W f h
moved (pretty kind) input V W f h = pretty_written (shape_of kind) input V W f h
moved (reference text) input V W f (parts, is, wrote) = (parts, is, f _ wrote)
moved (digest text) input V W f (algorithm, encoded, is, wrote) = (algorithm, encoded, is, f _ wrote)
moved (pin text) input V W f (parts, d, accepted, means, wrote) = (parts, d, accepted, means, f _ wrote)

pub written : (asked : Asked) (input old new : Option (List ℕ)) (buffer : List ℕ) → Writes asked input (Appends (Some []) (Some buffer)) → Appends old new buffer → Writes asked input (Appends old new)
written asked input old new buffer h wrote = moved asked input _ _ (λ t is. subst (Appends old new) is wrote) h
