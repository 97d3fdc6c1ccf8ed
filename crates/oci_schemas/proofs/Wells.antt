-- The shape of each kind is well formed, and so is that of its schema.
use Rattle.std.proofs.Common.{◌≡◌, sym, subst}
use Rattle.oci_model.specs.WellFormed.{WellFormed}
use Rattle.oci_model.specs.Shape.{Shape}
use Rattle.oci_shapes.proofs.Well.{well_image_manifest, well_image_index, well_image_configuration, well_artifact_manifest, well_oci_layout, well_descriptor, well_error_response, well_repository_list, well_tag_list, well_reference, well_spec, well_state, well_container_process_state, well_features}
use Rattle.oci_schemas.specs.Kinds.{shape_of}
use Rattle.oci_schemas.specs.declared.kind.Kind.{Kind}
use Rattle.oci_schemas.specs.declared.kind.Kind.TheVariants.{Manifest, Index, Config, Artifact, Layout, Descriptor, Error, Repositories, Tags, Reference, Spec, State, ProcessState, Features}

kind_well : (k : Kind) → WellFormed (shape_of k)
kind_well Manifest = well_image_manifest
kind_well Index = well_image_index
kind_well Config = well_image_configuration
kind_well Artifact = well_artifact_manifest
kind_well Layout = well_oci_layout
kind_well Descriptor = well_descriptor
kind_well Error = well_error_response
kind_well Repositories = well_repository_list
kind_well Tags = well_tag_list
kind_well Reference = well_reference
kind_well Spec = well_spec
kind_well State = well_state
kind_well ProcessState = well_container_process_state
kind_well Features = well_features

pub schema_well : (k : Kind) (s : Shape) → s ≡ shape_of k → WellFormed s
schema_well k s e = subst WellFormed (sym e) (kind_well k)
