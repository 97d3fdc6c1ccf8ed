-- What the contents of an image layout are read as (image specification, "Media Types", "Compatibility Matrix").
use Rattle.std.specs.Prelude.{ℕ, List, [], ◌∷◌, codes, Bool, ◌||◌, if◌then◌else◌, Option, Some, None}
use Rattle.std.specs.Str.{str_eq_ignore_ascii_case}
use Rattle.oci_model.specs.Shape.{Shape, free_map}
use Rattle.oci_shapes.specs.ArtifactManifest.{artifact_manifest}
use Rattle.oci_shapes.specs.ImageConfiguration.{image_configuration}
use Rattle.oci_shapes.specs.ImageIndex.{image_index}
use Rattle.oci_shapes.specs.ImageManifest.{image_manifest}
use Rattle.oci_layout.specs.declared.kind.Kind.{Kind}
use Rattle.oci_layout.specs.declared.kind.Kind.TheVariants.{Index, DockerList, Manifest, DockerManifest, Artifact, Config, DockerConfig, Empty, Opaque}
use Rattle.oci_layout.specs.declared.member.OtherMember.{OtherMember}
use Rattle.oci_layout.specs.declared.member.OtherMember.TheVariants as member

-- two texts are one media type: its names are compared without regard to case (RFC 6838, section 4.2)
unfoldable pub is_same_type : List ℕ → List ℕ → Bool
is_same_type type other = str_eq_ignore_ascii_case type other

-- what a content of this media type is read as
abbrev pub part_kind_of : List ℕ → Kind
part_kind_of type =
    if is_same_type type (codes "application/vnd.oci.image.config.v1+json") then Config
    else (if is_same_type type (codes "application/vnd.docker.container.image.v1+json") then DockerConfig
    else (if is_same_type type (codes "application/vnd.oci.empty.v1+json") then Empty
    else Opaque))

abbrev pub manifest_kind_of : List ℕ → Kind
manifest_kind_of type =
    if is_same_type type (codes "application/vnd.oci.image.manifest.v1+json") then Manifest
    else (if is_same_type type (codes "application/vnd.docker.distribution.manifest.v2+json") then DockerManifest
    else (if is_same_type type (codes "application/vnd.oci.artifact.manifest.v1+json") then Artifact
    else part_kind_of type))

abbrev pub kind_of : List ℕ → Kind
kind_of type =
    if is_same_type type (codes "application/vnd.oci.image.index.v1+json") then Index
    else (if is_same_type type (codes "application/vnd.docker.distribution.manifest.list.v2+json") then DockerList
    else manifest_kind_of type)

-- the media type of a document that can say it itself
abbrev pub own_type : Kind → Option (List ℕ)
own_type Index = Some (codes "application/vnd.oci.image.index.v1+json")
own_type DockerList = Some (codes "application/vnd.docker.distribution.manifest.list.v2+json")
own_type Manifest = Some (codes "application/vnd.oci.image.manifest.v1+json")
own_type DockerManifest = Some (codes "application/vnd.docker.distribution.manifest.v2+json")
own_type Artifact = Some (codes "application/vnd.oci.artifact.manifest.v1+json")
own_type _ = None

-- the documents of a kind, where it is one of documents
abbrev pub document_shape : Kind → Option Shape
document_shape Index = Some image_index
document_shape DockerList = Some image_index
document_shape Manifest = Some image_manifest
document_shape DockerManifest = Some image_manifest
document_shape Artifact = Some artifact_manifest
document_shape Config = Some image_configuration
document_shape DockerConfig = Some image_configuration
-- an object, of which no member is asked for
document_shape Empty = Some free_map
document_shape Opaque = None

-- the name of a member
abbrev pub member_name : OtherMember → List ℕ
member_name member.Manifests = codes "manifests"
member_name member.Config = codes "config"
member_name member.Layers = codes "layers"
member_name member.FsLayers = codes "fsLayers"

-- The members by which clients may take a document of a kind for one of another. A manifest provides one configuration and set of layers, unlike the index
-- (image specification, "Image Manifest"), and `fsLayers` are the layers of Docker's manifest of version 2, schema 1.
abbrev pub other_members : Kind → List OtherMember
other_members Index = member.Config ∷ member.Layers ∷ member.FsLayers ∷ []
other_members DockerList = member.Config ∷ member.Layers ∷ member.FsLayers ∷ []
other_members Manifest = member.Manifests ∷ member.FsLayers ∷ []
other_members DockerManifest = member.Manifests ∷ member.FsLayers ∷ []
other_members _ = []

-- a layer that may be had elsewhere alone
abbrev pub is_nondistributable : List ℕ → Bool
is_nondistributable type =
    is_same_type type (codes "application/vnd.oci.image.layer.nondistributable.v1.tar")
    || is_same_type type (codes "application/vnd.oci.image.layer.nondistributable.v1.tar+gzip")
    || is_same_type type (codes "application/vnd.oci.image.layer.nondistributable.v1.tar+zstd")
    || is_same_type type (codes "application/vnd.docker.image.rootfs.foreign.diff.tar.gzip")
