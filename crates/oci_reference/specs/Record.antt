-- A reference as a document: an object of its texts, which are not tested when it is read (distribution specification, "Pulling manifests").
use Rattle.std.specs.Prelude.{[], ◌∷◌}
use Rattle.oci_model.specs.Plain as plain
use Rattle.oci_model.specs.Plain.{Plain, document, slots}
use Rattle.oci_model.specs.Types.{given, perhaps}
use Rattle.oci_reference.specs.Parts.{Parts}

-- the content of a document
abbrev pub reference_plain : Parts → Plain
reference_plain r = document (slots (
    given (λ t. plain.text t) r.registry
    ∷ perhaps (λ t. plain.text t) r.mirror
    ∷ given (λ t. plain.text t) r.repository
    ∷ perhaps (λ t. plain.text t) r.tag
    ∷ perhaps (λ t. plain.text t) r.digest
    ∷ []))
