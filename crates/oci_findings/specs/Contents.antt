-- What stands against a content of an image layout, and what findings say of it.
use Rattle.std.specs.Prelude.{◌≡◌, ℕ, ◌-◌, List, [], ◌∷◌, ◌++◌, codes, map, string_bytes, Bool, true, false, not, Option, Some, None}
use Rattle.std.specs.Fmt.{decimal}
use Rattle.oci_content.specs.declared.embedded.Embedded.{Embedded}
use Rattle.oci_layout.specs.Kinds.{member_name}
use Rattle.oci_layout.specs.Looks.{is_unread, may_miss}
use Rattle.oci_layout.specs.declared.claim.Claim.{Claim}
use Rattle.oci_layout.specs.declared.claim.Detail.{Detail}
use Rattle.oci_layout.specs.declared.claim.Fault.{Fault}
use Rattle.oci_layout.specs.declared.claim.Fault.TheVariants as fault
use Rattle.oci_layout.specs.declared.claim.Held.{Held}
use Rattle.oci_layout.specs.declared.claim.Role.{Role}
use Rattle.oci_layout.specs.declared.claim.Role.TheVariants as role
use Rattle.oci_schema.specs.Violations.{Expectation, expectation_of, reported}
use Rattle.oci_schema.specs.declared.violation.Violation.{Violation}
use Rattle.oci_findings.specs.declared.file_fault.FileFault.{FileFault}
use Rattle.oci_findings.specs.declared.file_fault.FileFault.TheVariants as file
use Rattle.oci_findings.specs.declared.finding.Cause.{Cause}
use Rattle.oci_findings.specs.declared.finding.Cause.TheVariants.{Json, Schema, File}
use Rattle.oci_findings.specs.declared.finding.Finding.{Finding}
use Rattle.oci_findings.specs.Lines.{is_error}

-- the JSON pointer of a descriptor, by its role and its index among the descriptors of its document; the first of a manifest is its configuration
abbrev pub descriptor_pointer : Role → ℕ → List ℕ
descriptor_pointer role.Manifest at = codes "/manifests/" ++ decimal at
descriptor_pointer role.Config at = codes "/config"
descriptor_pointer role.Layer at = codes "/layers/" ++ decimal (at - 1)
descriptor_pointer role.Blob at = codes "/blobs/" ++ decimal at
descriptor_pointer role.Subject at = codes "/subject"

-- what was found: a violation of the document's schema, what is found of a content that a descriptor holds itself, a fault, or that it is not looked into
pub data Fact : Type 0 where
  violated : Expectation → Fact
  held : Embedded → Fact
  against : Fault → Fact
  unread : Fact

-- what a fault of a file says
abbrev pub file_fact : FileFault → Option Fact
file_fact (file.Missing why) = Some (against fault.Missing)
file_fact (file.Unreadable why) = Some (against fault.Unreadable)
file_fact file.TooLarge = Some (against fault.TooLarge)
file_fact (file.Size claimed (Some found)) = Some (against (fault.Shorter found))
file_fact (file.Size claimed None) = Some (against fault.Longer)
file_fact (file.Digest claimed found) = Some (against (fault.OtherDigest found))
file_fact file.Unjudged = Some (against fault.Unjudged)
file_fact (file.MediaType said found) = Some (against fault.OtherType)
file_fact (file.Ambiguous member) = Some (against (fault.Ambiguous member))
file_fact (file.Held embedded) = Some (held embedded)
file_fact file.Unread = Some unread
file_fact _ = None

-- what a finding says was found
abbrev pub fact_in : Cause → Option Fact
fact_in (Json said place) = Some (against fault.NoJson)
fact_in (Schema expected found) = Some (violated (expectation_of expected))
fact_in (File f) = file_fact f
fact_in _ = None

-- where it is, what was found there, and whether it is wrong
abbrev pub Said : Type 0
Said = List ℕ × Option Fact × Bool

abbrev pub fact : Finding → Said
fact f = (string_bytes f.pointer, fact_in f.cause, is_error f)

abbrev pub IsNoJsonCause : Cause → Type 0
IsNoJsonCause c = fact_in c ≡ Some (against fault.NoJson)

-- what a violation is, and what was found of a content that a descriptor holds itself
abbrev pub violation_fact : Violation → Said
violation_fact v = ((reported v).0, Some (violated (reported v).1), true)

abbrev pub held_fact : Held → Said
held_fact h = (descriptor_pointer h.role h.at ++ codes "/data", Some (held h.embedded), true)

-- what stands against a document as a whole, or a member by which it may be taken for another. What its schema does not allow is said by the violations, and what
-- its descriptors hold by themselves
abbrev pub document_fault : Option Fault → List Said
document_fault (Some fault.NoJson) = ([], Some (against fault.NoJson), true) ∷ []
document_fault (Some fault.OtherType) = (codes "/mediaType", Some (against fault.OtherType), true) ∷ []
document_fault (Some (fault.Ambiguous member)) = (codes "/" ++ member_name member, Some (against (fault.Ambiguous member)), true) ∷ []
document_fault _ = []

-- all that stands against a document, in the order in which it is listed
abbrev pub document_facts : Option Fault → Detail → List Said
document_facts found detail = (map violation_fact detail.violations.items ++ map held_fact detail.held.items) ++ document_fault found

-- a content that is missing and may be is worth a note, anything else is wrong
abbrev pub is_wrong : Claim → Fault → Bool
is_wrong claim fault.Missing = not (may_miss claim)
is_wrong claim _ = true

-- what stands against a content that is not as it is claimed to be
abbrev pub content_fault : Claim → Option Fault → List Said
content_fault claim None = []
content_fault claim (Some fault.NoJson) = []
content_fault claim (Some fault.NoDocument) = []
content_fault claim (Some fault.OtherType) = []
content_fault claim (Some (fault.Ambiguous member)) = []
content_fault claim (Some fault.Embedded) = []
content_fault claim (Some f) = ([], Some (against f), is_wrong claim f) ∷ []

abbrev pub note_fact : Bool → List Said
note_fact true = ([], Some unread, false) ∷ []
note_fact false = []

-- that a content against which nothing stands is not looked into
abbrev pub unread_fact : Claim → Option Fault → List Said
unread_fact claim None = note_fact (is_unread claim)
unread_fact claim (Some f) = []

-- what one fault of a file says of the whole of it, if there is one
abbrev pub file_facts : Bool → Option FileFault → List Said
file_facts wrong None = []
file_facts wrong (Some f) = ([], file_fact f, wrong) ∷ []
