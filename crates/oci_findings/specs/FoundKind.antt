-- Which kind a document is found to be of, where none is asked for.
use Rattle.std.specs.Prelude.{ℕ, List, [], ◌∷◌, ◌&&◌, ◌||◌, Bool, not, codes, bytes_eq, nat_eq, is_some, option_and_then, Option, Some, None, if◌then◌else◌}
use Rattle.std.specs.List.{filter, list_all, list_any, ends_with}
use Rattle.serde_json.specs.Data.{Data}
use Rattle.serde_json.specs.Find.{get, as_str}
use Rattle.oci_base.specs.Classes.{slash}
use Rattle.oci_schemas.specs.declared.kind.Kind.{Kind}
use Rattle.oci_schemas.specs.declared.kind.Kind.TheVariants.{Manifest, Index, Config, Artifact, Layout, Descriptor, Error, Repositories, Tags, Reference, Spec, State, ProcessState, Features}

-- it is an object with a member of this name; and what the member says, if it is a string
abbrev pub has_member : Data → List ℕ → Bool
has_member d name = is_some (get name d)

abbrev pub string_member : Data → List ℕ → Option (List ℕ)
string_member d name = option_and_then as_str (get name d)

-- ---- by the media type

-- the kind of a media type (image specification, "OCI Image Media Types"; Docker's manifests are read as those of OCI)
unfoldable pub of_media_type : List ℕ → Option Kind
of_media_type t =
    if bytes_eq t (codes "application/vnd.oci.image.manifest.v1+json") then Some Manifest
    else (if bytes_eq t (codes "application/vnd.docker.distribution.manifest.v2+json") then Some Manifest
    else (if bytes_eq t (codes "application/vnd.oci.image.index.v1+json") then Some Index
    else (if bytes_eq t (codes "application/vnd.docker.distribution.manifest.list.v2+json") then Some Index
    else (if bytes_eq t (codes "application/vnd.oci.artifact.manifest.v1+json") then Some Artifact
    else (if bytes_eq t (codes "application/vnd.oci.layout.header.v1+json") then Some Layout
    else None)))))

-- the media type that a document says; a descriptor, which has a digest, says that of what it describes
abbrev pub own_media_type : Data → Option (List ℕ)
own_media_type d = if has_member d (codes "digest") then None else string_member d (codes "mediaType")

-- ---- by the members

-- the members by which a document of a kind is known: it has all of them
abbrev pub marks : Kind → List (List ℕ)
marks Manifest = codes "config" ∷ codes "layers" ∷ []
marks Index = codes "manifests" ∷ []
marks Config = codes "architecture" ∷ codes "os" ∷ codes "rootfs" ∷ []
marks Artifact = codes "blobs" ∷ []
marks Layout = codes "imageLayoutVersion" ∷ []
marks Descriptor = codes "mediaType" ∷ codes "digest" ∷ codes "size" ∷ []
marks Error = codes "errors" ∷ []
marks Repositories = codes "repositories" ∷ []
marks Tags = codes "name" ∷ codes "tags" ∷ []
marks Reference = codes "registry" ∷ codes "repository" ∷ []
marks Spec = codes "ociVersion" ∷ []
marks State = codes "ociVersion" ∷ codes "id" ∷ codes "status" ∷ codes "bundle" ∷ []
marks ProcessState = codes "ociVersion" ∷ codes "pid" ∷ codes "state" ∷ []
marks Features = codes "ociVersionMin" ∷ codes "ociVersionMax" ∷ []

-- and the members that it has none of: a state begins as a configuration does, and has what that has not (runtime specification, "State")
abbrev pub foreign_marks : Kind → List (List ℕ)
foreign_marks Spec = codes "status" ∷ codes "pid" ∷ []
foreign_marks kind = []

unfoldable pub is_known : Data → Kind → Bool
is_known d kind = list_all (has_member d) (marks kind) && not (list_any (has_member d) (foreign_marks kind))

abbrev pub all_kinds : List Kind
all_kinds = Manifest ∷ Index ∷ Config ∷ Artifact ∷ Layout ∷ Descriptor ∷ Error ∷ Repositories ∷ Tags ∷ Reference ∷ Spec ∷ State ∷ ProcessState ∷ Features ∷ []

-- the only one
abbrev pub only : List Kind → Option Kind
only [] = None
only (kind ∷ []) = Some kind
only (kind ∷ other ∷ kinds) = None

unfoldable pub by_members : Data → Option Kind
by_members d = only (filter (is_known d) all_kinds)

-- ---- by the file name (image specification, "Image Layout")

-- the path is this name, or ends in a slash and this name
abbrev pub is_file : List ℕ → List ℕ → Bool
is_file path name = bytes_eq path name || ends_with nat_eq path (slash ∷ name)

abbrev pub layout_names : List (List ℕ)
layout_names = codes "imageLayoutVersion" ∷ []

abbrev pub index_names : List (List ℕ)
index_names = codes "schemaVersion" ∷ codes "mediaType" ∷ codes "artifactType" ∷ codes "manifests" ∷ codes "subject" ∷ codes "annotations" ∷ []

-- the name is that of a file of an image layout, and the document has a member of its kind
unfoldable pub by_file_name : List ℕ → Data → Option Kind
by_file_name path d =
    if is_file path (codes "oci-layout") && list_any (has_member d) layout_names then Some Layout
    else (if is_file path (codes "index.json") && list_any (has_member d) index_names then Some Index
    else None)

-- ---- the kind

abbrev pub first_of : Option Kind → Option Kind → Option Kind
first_of (Some kind) other = Some kind
first_of None other = other

-- where it says a media type, that alone decides
abbrev pub by_type_or : Option (List ℕ) → Option Kind → Option Kind
by_type_or (Some media_type) other = of_media_type media_type
by_type_or None other = other

-- of a document in a file of this name: by its media type, or else by its members, or else by the name
unfoldable pub found_kind : List ℕ → Data → Option Kind
found_kind name d = by_type_or (own_media_type d) (first_of (by_members d) (by_file_name name d))

-- the kind that is asked for, or else the one that is found
abbrev pub kind_for : Option Kind → List ℕ → Data → Option Kind
kind_for (Some kind) name d = Some kind
kind_for None name d = found_kind name d
