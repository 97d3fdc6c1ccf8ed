-- What descriptors of one content say of it (image specification, "OCI Content Descriptors"; "OCI Image Media Types", "Media Type Conflicts").
use Rattle.std.specs.Prelude.{◌≡◌, ◌==◌, ◌+◌, ℕ, List, [], ◌∷◌, ◌++◌, codes, bytes_eq, Bool, Option, Some, None, option_map, option_and_then, if◌then◌else◌}
use Rattle.std.specs.List.{Contains}
use Rattle.serde_json.specs.Data.{Data}
use Rattle.oci_rules.specs.Parts.{text_at, natural_at}
use Rattle.oci_agreement.specs.declared.descriptors.Conflict.{Conflict as GivenConflict}
use Rattle.oci_agreement.specs.declared.descriptors.DescriptorAgreement.{DescriptorAgreement}
use Rattle.oci_agreement.specs.declared.descriptors.DescriptorAgreement.TheVariants.{Sizes, Types}
use Rattle.oci_agreement.specs.declared.descriptors.Mention.{Mention as Given}

-- what a descriptor says of its content
pub record Mention : Type 0 where
  pub digest : List ℕ
  pub media_type : List ℕ
  pub size : ℕ

abbrev pub mention_of : Given → Mention
mention_of m = record { digest = m.digest.now; media_type = m.media_type.now; size = m.size }

abbrev pub mention : List ℕ → List ℕ → ℕ → Mention
mention digest media_type size = record { digest = digest; media_type = media_type; size = size }

-- what one says, where it says all of it
abbrev pub mention_in : Data → Option Mention
mention_in d =
    option_and_then (λ digest. option_and_then (λ media_type. option_map (mention digest media_type) (natural_at (codes "size") d)) (text_at (codes "mediaType") d)) (text_at (codes "digest") d)

-- the two say the same
abbrev pub Same : DescriptorAgreement → Mention → Mention → Type 0
Same Sizes m n = m.size ≡ n.size
Same Types m n = m.media_type ≡ n.media_type

-- so do all that have one digest
abbrev pub AllAgree : DescriptorAgreement → List Mention → Type 0
AllAgree a all = (m n : Mention) → Contains all m → Contains all n → m.digest ≡ n.digest → Same a m n

-- ---- what is listed

-- the first that has this digest
abbrev pub first_said : List ℕ → List Mention → Option Mention
first_said digest [] = None
first_said digest (m ∷ ms) = if bytes_eq digest m.digest then Some m else first_said digest ms

-- after one more, of which only the first with a digest counts
abbrev pub with_one : Mention → List ℕ → Option Mention → Option Mention
with_one m digest None = if bytes_eq digest m.digest then Some m else None
with_one m digest (Some first) = Some first

abbrev pub is_same : DescriptorAgreement → Mention → Mention → Bool
is_same Sizes m n = m.size == n.size
is_same Types m n = bytes_eq m.media_type n.media_type

-- the place of a descriptor, and the first that has its digest
pub record Conflict : Type 0 where
  pub place : ℕ
  pub first : Mention

abbrev pub conflict_of : GivenConflict → Conflict
conflict_of c = record { place = c.place; first = mention_of c.first }

abbrev pub conflict_at : DescriptorAgreement → ℕ → Option Mention → Mention → List Conflict
conflict_at a place None m = []
conflict_at a place (Some first) m = if is_same a first m then [] else record { place = place; first = first } ∷ []

-- of each from this place on
abbrev pub conflicts : DescriptorAgreement → List Mention → ℕ → List Mention → List Conflict
conflicts a all place [] = []
conflicts a all place (m ∷ ms) = conflict_at a place (first_said m.digest all) m ++ conflicts a all (place + 1) ms
