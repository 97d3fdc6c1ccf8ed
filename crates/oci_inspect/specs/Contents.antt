-- Documents of an image layout, and why one is not to be had (image specification, "Content Descriptors" and "Image Layout").
use Rattle.std.specs.Prelude.{◌≡◌, ◌≢◌, ◌⊎◌, ◌≤◌, ⊤, ℕ, List, Bool, false, length, Option, Some, None, string_bytes}
use Rattle.oci_content.specs.Content.{IsContentOf, Tells}
use Rattle.oci_content.specs.declared.verdict.Verdict.TheVariants.{Same}
use Rattle.oci_descriptor.specs.declared.descriptor.Descriptor.{Descriptor}
use Rattle.oci_json.specs.Engines.{MeansBytes, IsNoJson, IsNoDocument}
use Rattle.oci_layout.specs.Sound.{IsLarger}
use Rattle.oci_model.specs.Plain.{Plain}
use Rattle.oci_model.specs.Shape.{Shape}
use Rattle.oci_inspect.specs.declared.fault.Fault.{Fault}
use Rattle.oci_inspect.specs.declared.fault.Fault.TheVariants.{Missing, Unreadable, TooLarge, Other, Invalid, Memory}
use Rattle.oci_inspect.specs.declared.fault.FindError.{FindError}
use Rattle.oci_inspect.specs.declared.fault.FindError.TheVariants.{Content}
use Rattle.oci_inspect.specs.declared.fault.FindError.TheVariants as error

-- how large a document may be: 4 MiB (distribution specification, "Pushing Manifests")
abbrev pub document_limit : ℕ
document_limit = 4194304

-- the bytes are the content of a descriptor, no larger than a document may be
pub record IsContent (contents : List ℕ → Option (List ℕ)) (d : Descriptor) (bytes : List ℕ) : Type 0 where
  pub there : contents d.digest ≡ Some bytes
  pub small : length bytes ≤ document_limit
  pub same : IsContentOf d.digest d.size bytes

-- the bytes are no content of a descriptor, by what is found of them
abbrev pub IsOther : Descriptor → List ℕ → Fault → Type 0
IsOther d bytes (Other found) = (found ≢ Same) × Tells d.digest d.size bytes found
IsOther d bytes _ = ⊥

-- why the content of a descriptor is not to be had; `steady` says that reads do not fail
abbrev pub IsUnread : Bool → (List ℕ → Option (List ℕ)) → Descriptor → Fault → Type 0
IsUnread steady contents d Missing = contents d.digest ≡ None
IsUnread steady contents d (Unreadable why) = steady ≡ false
IsUnread steady contents d TooLarge = IsLarger document_limit (contents d.digest)
IsUnread steady contents d (Other found) = (bytes : List ℕ) × (contents d.digest ≡ Some bytes) × IsOther d bytes (Other found)
IsUnread steady contents d (Invalid why) = ⊥
IsUnread steady contents d Memory = ⊤

-- why bytes are no document of a shape
abbrev pub IsInvalid : Shape → List ℕ → Fault → Type 0
IsInvalid shape bytes (Invalid why) = IsNoJson bytes ⊎ IsNoDocument shape bytes
IsInvalid shape bytes Memory = ⊤
IsInvalid shape bytes _ = ⊥

-- why a descriptor leads to no document of a shape
abbrev pub IsNoContent : Shape → Bool → (List ℕ → Option (List ℕ)) → Descriptor → Fault → Type 0
IsNoContent shape steady contents d fault = IsUnread steady contents d fault ⊎ ((bytes : List ℕ) × IsContent contents d bytes × IsInvalid shape bytes fault)

-- a descriptor leads to a document of a shape with this content
abbrev pub IsDocumentOf : Shape → (List ℕ → Option (List ℕ)) → Descriptor → Plain → Type 0
IsDocumentOf shape contents d p = (bytes : List ℕ) × IsContent contents d bytes × MeansBytes shape bytes p

-- ---- errors by a content

-- the error says this of the content of a descriptor
abbrev pub IsOfContent : Descriptor → Fault → FindError → Type 0
IsOfContent d fault (Content digest found) = (string_bytes digest ≡ d.digest) × (found ≡ fault)
IsOfContent d fault error.Memory = ⊤
IsOfContent d fault _ = ⊥

-- P of the digest and of what the error says of its content
abbrev pub OnContent : (List ℕ → Fault → Type 0) → FindError → Type 0
OnContent P (Content digest fault) = P (string_bytes digest) fault
OnContent P error.Memory = ⊤
OnContent P _ = ⊥
