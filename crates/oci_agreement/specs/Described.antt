-- How agreements are told: as rules are, by a name that stays, a level, and the section that they are from.
use Rattle.std.specs.Prelude.{ℕ, List, codes}
use Rattle.oci_rules.specs.Rules.{Level, stated, host}
use Rattle.oci_rules.specs.Tables.{level_of}
use Rattle.oci_agreement.specs.declared.agreement.Agreement.{Agreement}
use Rattle.oci_agreement.specs.declared.agreement.Agreement.TheVariants.{DiffIdsCount, DiffId, HistoryCount, PlatformOs, PlatformArchitecture, PlatformVariant, PlatformOsVersion, PlatformOsFeatures, ArtifactType, AnnotationCopies, TypesMixed}
use Rattle.oci_agreement.specs.declared.agreement.Description.{Description as Given}
use Rattle.oci_agreement.specs.declared.descriptors.DescriptorAgreement.{DescriptorAgreement}
use Rattle.oci_agreement.specs.declared.descriptors.DescriptorAgreement.TheVariants.{Sizes, Types}

pub record Description : Type 0 where
  pub name : List ℕ
  pub level : Level
  pub section : List ℕ

abbrev pub description_of : Given → Description
description_of d = record { name = d.name.now; level = level_of d.level; section = d.section.now }

abbrev pub named : List ℕ → Level → List ℕ → Description
named name level section = record { name = name; level = level; section = section }

abbrev pub described : Agreement → Description
described DiffIdsCount = named (codes "image-diff-ids-count") host (codes "image config.md#properties")
described DiffId = named (codes "image-diff-id") stated (codes "image config.md#layer-diffid")
described HistoryCount = named (codes "image-history-count") stated (codes "image config.md#properties")
described PlatformOs = named (codes "image-platform-os") host (codes "image image-index.md#image-index-property-descriptions")
described PlatformArchitecture = named (codes "image-platform-architecture") host (codes "image image-index.md#image-index-property-descriptions")
described PlatformVariant = named (codes "image-platform-variant") host (codes "image image-index.md#platform-variants")
described PlatformOsVersion = named (codes "image-platform-os-version") host (codes "image image-index.md#image-index-property-descriptions")
described PlatformOsFeatures = named (codes "image-platform-os-features") host (codes "image image-index.md#image-index-property-descriptions")
described ArtifactType = named (codes "descriptor-artifact-type-same") stated (codes "image descriptor.md#properties")
described AnnotationCopies = named (codes "annotation-copies-same") host (codes "image conversion.md#annotations")
described TypesMixed = named (codes "image-types-mixed") host (codes "image media-types.md#compatibility-matrix")

abbrev pub described_descriptors : DescriptorAgreement → Description
described_descriptors Sizes = named (codes "descriptor-sizes-same") stated (codes "image descriptor.md#properties")
described_descriptors Types = named (codes "descriptor-types-same") host (codes "image media-types.md#media-type-conflicts")
