-- What is said of files of an image layout.
use Rattle.std.specs.Prelude.{ℕ, List, [], ◌++◌, codes, string_bytes, String, Option, Some, None}
use Rattle.std.specs.declared.alloc.Global.{Global}
use Rattle.std.specs.Fmt.{decimal}
use Rattle.oci_content.specs.Content.{checksum_text}
use Rattle.oci_content.specs.declared.embedded.Embedded.{Embedded}
use Rattle.oci_content.specs.declared.embedded.Embedded.TheVariants as embedded
use Rattle.oci_layout.specs.declared.member.OtherMember.{OtherMember}
use Rattle.oci_layout.specs.declared.member.OtherMember.TheVariants as member
use Rattle.oci_findings.specs.declared.file_fault.Absence.{Absence}
use Rattle.oci_findings.specs.declared.file_fault.Absence.TheVariants as absence
use Rattle.oci_findings.specs.declared.file_fault.FileFault.{FileFault}
use Rattle.oci_findings.specs.declared.file_fault.FileFault.TheVariants.{Missing, Unreadable, TooLarge, Size, Digest, Unjudged, MediaType, Ambiguous, Held, Version, Unlisted, Unread, Unreferenced}

-- what was found, if it is shown
abbrev pub found_words : Option (String Global) → List ℕ
found_words None = []
found_words (Some text) = codes ", found " ++ string_bytes text

-- why, if that is known
abbrev pub reason_words : Option (String Global) → List ℕ
reason_words None = []
reason_words (Some why) = codes ": " ++ string_bytes why

abbrev pub absence_words : Absence → List ℕ
absence_words absence.Wrong = codes "missing"
absence_words absence.Subject = codes "missing, as a subject may be"
absence_words absence.Elsewhere = codes "missing, a nondistributable layer that has URLs"

-- how many bytes there are, or that there are more
abbrev pub count_words : Option ℕ → List ℕ
count_words (Some found) = decimal found
count_words None = codes "more"

-- the document that is expected in place of one with this member, and why
abbrev pub member_words : OtherMember → List ℕ
member_words member.Manifests = codes "a manifest without `manifests`; clients may take it for an index"
member_words member.Config = codes "an index without `config`; clients may take it for a manifest"
member_words member.Layers = codes "an index without `layers`; clients may take it for a manifest"
member_words member.FsLayers = codes "a document without `fsLayers`; clients may take it for a manifest of schema 1"

-- what is expected of a content that a descriptor holds itself
abbrev pub embedded_words : Embedded → List ℕ
embedded_words embedded.NotBase64 = codes "a base64 string"
embedded_words _ = codes "the content that its descriptor says"

-- what is wrong with a file, in a sentence
abbrev pub file_words : FileFault → List ℕ
file_words (Missing why) = absence_words why
file_words (Unreadable why) = codes "cannot be read" ++ reason_words why
file_words TooLarge = codes "too large to be read as a document"
file_words (Size claimed found) = codes "expected " ++ (decimal claimed ++ (codes " bytes, found " ++ count_words found))
file_words (Digest claimed found) = codes "expected " ++ (string_bytes claimed ++ (codes ", found " ++ checksum_text found))
file_words Unjudged = codes "expected a digest by sha256, sha384 or sha512"
file_words (MediaType said found) = (codes "expected " ++ said.now) ++ found_words found
file_words (Ambiguous m) = codes "expected " ++ member_words m
file_words (Held e) = codes "expected " ++ embedded_words e
file_words (Version found) = (codes "expected " ++ codes "1.0.0") ++ found_words found
file_words (Unlisted why) = codes "cannot be listed to its end" ++ reason_words why
file_words Unread = codes "not looked into, since its media type is of no kind that is known"
file_words Unreferenced = codes "nothing that is reached refers to it"

-- the name of the rule
abbrev pub file_rule : FileFault → List ℕ
file_rule (Missing why) = codes "missing"
file_rule (Unreadable why) = codes "unreadable"
file_rule TooLarge = codes "too-large"
file_rule (Size claimed found) = codes "size"
file_rule (Digest claimed found) = codes "digest"
file_rule Unjudged = codes "unjudged"
file_rule (MediaType said found) = codes "media-type"
file_rule (Ambiguous m) = codes "ambiguous"
file_rule (Held e) = codes "embedded"
file_rule (Version found) = codes "layout-version"
file_rule (Unlisted why) = codes "unlisted"
file_rule Unread = codes "unread"
file_rule Unreferenced = codes "unreferenced"
