-- The kinds of documents that the program reads, by their words.
use Rattle.std.specs.Prelude.{ℕ, List, codes, bytes_eq, Option, Some, None, if◌then◌else◌}
use Rattle.oci_model.specs.Shape.{Shape}
use Rattle.oci_shapes.specs.ImageManifest.{image_manifest}
use Rattle.oci_shapes.specs.ImageIndex.{image_index}
use Rattle.oci_shapes.specs.ImageConfiguration.{image_configuration}
use Rattle.oci_shapes.specs.ArtifactManifest.{artifact_manifest}
use Rattle.oci_shapes.specs.OciLayout.{oci_layout}
use Rattle.oci_shapes.specs.Descriptor.{descriptor}
use Rattle.oci_shapes.specs.ErrorResponse.{error_response}
use Rattle.oci_shapes.specs.RepositoryList.{repository_list}
use Rattle.oci_shapes.specs.TagList.{tag_list}
use Rattle.oci_shapes.specs.Reference.{reference}
use Rattle.oci_shapes.specs.Spec.{spec}
use Rattle.oci_shapes.specs.State.{state}
use Rattle.oci_shapes.specs.ContainerProcessState.{container_process_state}
use Rattle.oci_shapes.specs.Features.{features}
use Rattle.oci_schemas.specs.declared.kind.Kind.{Kind}
use Rattle.oci_schemas.specs.declared.kind.Kind.TheVariants.{Manifest, Index, Config, Artifact, Layout, Descriptor, Error, Repositories, Tags, Reference, Spec, State, ProcessState, Features}

-- the kind that a word names
abbrev pub kind_of : List ℕ → Option Kind
kind_of word =
    if bytes_eq word (codes "manifest") then Some Manifest
    else (if bytes_eq word (codes "index") then Some Index
    else (if bytes_eq word (codes "config") then Some Config
    else (if bytes_eq word (codes "artifact") then Some Artifact
    else (if bytes_eq word (codes "layout") then Some Layout
    else (if bytes_eq word (codes "descriptor") then Some Descriptor
    else (if bytes_eq word (codes "error") then Some Error
    else (if bytes_eq word (codes "repositories") then Some Repositories
    else (if bytes_eq word (codes "tags") then Some Tags
    else (if bytes_eq word (codes "reference") then Some Reference
    else (if bytes_eq word (codes "spec") then Some Spec
    else (if bytes_eq word (codes "state") then Some State
    else (if bytes_eq word (codes "process-state") then Some ProcessState
    else (if bytes_eq word (codes "features") then Some Features
    else None)))))))))))))

-- the JSON that is allowed for a kind
abbrev pub shape_of : Kind → Shape
shape_of Manifest = image_manifest
shape_of Index = image_index
shape_of Config = image_configuration
shape_of Artifact = artifact_manifest
shape_of Layout = oci_layout
shape_of Descriptor = descriptor
shape_of Error = error_response
shape_of Repositories = repository_list
shape_of Tags = tag_list
shape_of Reference = reference
shape_of Spec = spec
shape_of State = state
shape_of ProcessState = container_process_state
shape_of Features = features
