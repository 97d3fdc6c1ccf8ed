-- What descriptors hold themselves (image specification, "Content Descriptors", "Embedded Content").
use Rattle.std.specs.Prelude.{◌≡◌, ◌⊎◌, ◌↔◌, ℕ, List, [], codes, Bool, true, false, Option, option_and_then}
use Rattle.std.specs.List.{All}
use Rattle.serde_json.specs.Data.{Data}
use Rattle.serde_json.specs.Find.{as_str, get}
use Rattle.oci_content.specs.Embedded.{TellsData}
use Rattle.oci_content.specs.declared.embedded.Embedded.{Embedded}
use Rattle.oci_content.specs.declared.embedded.Embedded.TheVariants.{Absent, NotBase64, Content}
use Rattle.oci_content.specs.declared.verdict.Verdict.{Verdict}
use Rattle.oci_content.specs.declared.verdict.Verdict.TheVariants.{Same}
use Rattle.oci_layout.specs.Claims.{string_at, number_at, descriptors_of}
use Rattle.oci_layout.specs.declared.kind.Kind.{Kind}

-- `data` is absent, or the text of the content that has this digest and size
abbrev pub IsHeld : List ℕ → ℕ → Option (List ℕ) → Type 0
IsHeld digest size text = TellsData digest size text Absent ⊎ TellsData digest size text (Content Same)

-- a descriptor holds nothing, or its content
abbrev pub HoldsContent : Data → Type 0
HoldsContent d = IsHeld (string_at (codes "digest") d) (number_at (codes "size") d) (option_and_then as_str (get (codes "data") d))

-- so do all of a document
abbrev pub HoldContents : Kind → Data → Type 0
HoldContents k d = All HoldsContent (descriptors_of k d)

-- the same of what was found
abbrev pub is_same : Verdict → Bool
is_same Same = true
is_same _ = false

abbrev pub is_held : Embedded → Bool
is_held Absent = true
is_held NotBase64 = false
is_held (Content v) = is_same v

-- the list was empty and this holds, or else it is not empty
abbrev pub StaysEmpty : {X : Type 0} → List X → List X → Type 0 → Type 0
StaysEmpty old new holds = (new ≡ []) ↔ ((old ≡ []) × holds)
