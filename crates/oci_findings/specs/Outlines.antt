-- The lines of trees: what stands before a line, a branch, what a descriptor says, and a mark.
use Rattle.std.specs.Prelude.{ℕ, ◌+◌, ◌*◌, ◌/◌, ◌%◌, List, [], ◌∷◌, ◌++◌, codes, length, string_bytes, nat_lt, Bool, true, false, ◌==◌, if◌then◌else◌, Option, Some, None, option_and_then, encode_utf8_all, map}
use Rattle.std.specs.Fmt.{decimal}
use Rattle.std.specs.List.{flat_map}
use Rattle.serde_json.specs.Data.{Data}
use Rattle.serde_json.specs.Find.{get}
use Rattle.oci_base.specs.Escaped.{escaped}
use Rattle.oci_model.specs.Means.{unless_null}
use Rattle.oci_layout.specs.Claims.{claim_of, string_at, number_at, items_at, item_at}
use Rattle.oci_layout.specs.declared.kind.Kind.{Kind}
use Rattle.oci_layout.specs.declared.kind.Kind.TheVariants as kind
use Rattle.oci_layout.specs.declared.claim.Claim.{Claim}
use Rattle.oci_layout.specs.declared.claim.Role.{Role}
use Rattle.oci_layout.specs.declared.claim.Role.TheVariants as role
use Rattle.oci_layout.specs.declared.claim.Fault.{Fault}
use Rattle.oci_layout.specs.declared.claim.Fault.TheVariants as fault
use Rattle.oci_findings.specs.declared.outline.Mark.{Mark}
use Rattle.oci_findings.specs.declared.outline.Mark.TheVariants as mark
use Rattle.oci_findings.specs.declared.outline.Child.{Child}
use Rattle.oci_findings.specs.declared.outline.Row.{Row}

-- ---- what a descriptor says

-- a part with a mark before it, if there is one
abbrev pub part : List ℕ → List ℕ → List ℕ
part mark text = if length text == 0 then [] else mark ++ text

-- a number of bytes as tenths of a unit, rounded to the nearest
abbrev pub tenths : ℕ → ℕ → ℕ
tenths bytes unit = (bytes * 10 + unit / 2) / unit

abbrev pub in_unit : ℕ → ℕ → List ℕ → List ℕ
in_unit bytes unit name = decimal (tenths bytes unit / 10) ++ (codes "." ++ (decimal (tenths bytes unit % 10) ++ name))

abbrev pub large_words : ℕ → List ℕ
large_words bytes =
    if nat_lt bytes 1073741824 then in_unit bytes 1048576 (codes " MiB")
    else (if nat_lt bytes 1099511627776 then in_unit bytes 1073741824 (codes " GiB")
    else in_unit bytes 1099511627776 (codes " TiB"))

abbrev pub size_words : ℕ → List ℕ
size_words bytes =
    if nat_lt bytes 1024 then decimal bytes ++ codes " B"
    else (if nat_lt bytes 1048576 then in_unit bytes 1024 (codes " KiB")
    else large_words bytes)

-- the word for a descriptor's place in its document
abbrev pub role_word : Role → List ℕ
role_word role.Manifest = codes "manifest"
role_word role.Config = codes "config"
role_word role.Layer = codes "layer"
role_word role.Blob = codes "blob"
role_word role.Subject = codes "subject"

-- the value under a name, if there is one and it is not null
abbrev pub member : List ℕ → Data → Option Data
member name d = option_and_then unless_null (get name d)

-- the platform that an image runs on (image specification, "Image Index", `platform`)
abbrev pub platform_words : Option Data → List ℕ
platform_words None = []
platform_words (Some p) = part (codes " ") (string_at (codes "os") p) ++ part (codes "/") (string_at (codes "architecture") p) ++ part (codes "/") (string_at (codes "variant") p)

-- the name that an index gives a manifest (image specification, "Annotations"), and what BuildKit attests of another
abbrev pub annotation_words : Option Data → List ℕ
annotation_words None = []
annotation_words (Some a) =
    part (codes " tag ") (string_at (codes "org.opencontainers.image.ref.name") a)
    ++ part (codes " ") (string_at (codes "vnd.docker.reference.type") a)
    ++ part (codes " of ") (string_at (codes "vnd.docker.reference.digest") a)

-- all that is said of a descriptor, but for its artifact type
abbrev pub label : Role → Data → List ℕ
label r d =
    role_word r
    ++ part (codes " ") (string_at (codes "mediaType") d)
    ++ part (codes " ") (string_at (codes "digest") d)
    ++ (codes " " ++ size_words (number_at (codes "size") d))
    ++ platform_words (member (codes "platform") d)
    ++ annotation_words (member (codes "annotations") d)

-- what is shown of a descriptor
pub record Entry : Type 0 where
  pub claim : Claim
  pub label : List ℕ
  pub artifact : List ℕ

abbrev pub entry_of : Role → Data → Entry
entry_of r d = record { claim = claim_of r d; label = label r d; artifact = string_at (codes "artifactType") d }

abbrev pub child_entry : Child → Entry
child_entry c = record { claim = c.claim; label = string_bytes c.label; artifact = string_bytes c.artifact }

-- of those of a document, in the order of what it claims
abbrev pub index_entries : Data → List Entry
index_entries d = map (entry_of role.Manifest) (items_at (codes "manifests") d) ++ map (entry_of role.Subject) (item_at (codes "subject") d)

abbrev pub manifest_entries : Data → List Entry
manifest_entries d =
    map (entry_of role.Config) (item_at (codes "config") d)
    ++ map (entry_of role.Layer) (items_at (codes "layers") d)
    ++ map (entry_of role.Subject) (item_at (codes "subject") d)

abbrev pub artifact_entries : Data → List Entry
artifact_entries d = map (entry_of role.Blob) (items_at (codes "blobs") d) ++ map (entry_of role.Subject) (item_at (codes "subject") d)

-- of those of a document of a kind
abbrev pub entries_of : Kind → Data → List Entry
entries_of kind.Index d = index_entries d
entries_of kind.DockerList d = index_entries d
entries_of kind.Manifest d = manifest_entries d
entries_of kind.DockerManifest d = manifest_entries d
entries_of kind.Artifact d = artifact_entries d
entries_of _ d = []

-- ---- lines

-- what stands against a document, where it is shown
abbrev pub fault_words : Fault → List ℕ
fault_words fault.NoJson = codes " (no JSON)"
fault_words fault.NoDocument = codes " (no document of its media type)"
fault_words fault.OtherType = codes " (a document of another media type)"
fault_words (fault.Ambiguous member) = codes " (ambiguous)"
fault_words _ = codes " (not as claimed)"

abbrev pub mark_words : Mark → List ℕ
mark_words mark.Plain = []
mark_words mark.Absent = codes " (missing, as it may be)"
mark_words mark.Missing = codes " (missing)"
mark_words mark.Unreadable = codes " (unreadable)"
mark_words mark.TooLarge = codes " (too large)"
mark_words (mark.Faulty f) = fault_words f
mark_words mark.Above = codes " (shown above)"
mark_words mark.Unread = codes " (not looked into, of no known media type)"
mark_words mark.Deep = codes " (not looked into, too deep)"

-- box drawings: U+251C or U+2514, U+2500 twice and a space; U+2502 and three spaces, or four spaces
abbrev pub branch : Bool → List ℕ
branch false = encode_utf8_all (0x251C ∷ 0x2500 ∷ 0x2500 ∷ 32 ∷ [])
branch true = encode_utf8_all (0x2514 ∷ 0x2500 ∷ 0x2500 ∷ 32 ∷ [])

abbrev pub trunk : Bool → List ℕ
trunk false = encode_utf8_all (0x2502 ∷ 32 ∷ 32 ∷ 32 ∷ [])
trunk true = codes "    "

-- a line of a tree
abbrev pub row_text : Row → List ℕ
row_text r = string_bytes r.before ++ branch r.is_last ++ string_bytes r.label ++ part (codes " artifact ") (string_bytes r.artifact) ++ mark_words r.mark

abbrev pub row_line : Row → List ℕ
row_line r = escaped (row_text r) ++ 10 ∷ []

abbrev pub row_lines : List Row → List ℕ
row_lines rows = flat_map row_line rows

-- the tree is whole as far as the line goes: what is missing may be
abbrev pub is_whole : Mark → Bool
is_whole mark.Plain = true
is_whole mark.Absent = true
is_whole mark.Above = true
is_whole _ = false
