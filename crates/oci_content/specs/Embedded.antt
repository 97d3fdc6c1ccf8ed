-- What is said of the content that a descriptor holds itself (image specification, "Content Descriptors", "Embedded Content").
use Rattle.std.specs.Prelude.{◌≡◌, ℕ, List, Option, Some, None, Ok, Err}
use Rattle.base64.specs.Engines.{standard}
use Rattle.base64.specs.GeneralPurpose.{decode_of}
use Rattle.base64.specs.declared.decode.DecodeError.{DecodeError}
use Rattle.oci_content.specs.Content.{Tells}
use Rattle.oci_content.specs.declared.embedded.Embedded.{Embedded}
use Rattle.oci_content.specs.declared.embedded.Embedded.TheVariants.{Absent, NotBase64, Content}

-- what is found of the text of `data`, where there is one, beside a digest and a size
abbrev pub TellsData : List ℕ → ℕ → Option (List ℕ) → Embedded → Type 0
TellsData digest size None e = e ≡ Absent
TellsData digest size (Some text) Absent = ⊥
TellsData digest size (Some text) NotBase64 = (e : DecodeError) × (decode_of standard text ≡ Err e)
TellsData digest size (Some text) (Content v) = (bytes : List ℕ) × (decode_of standard text ≡ Ok bytes) × Tells digest size bytes v
