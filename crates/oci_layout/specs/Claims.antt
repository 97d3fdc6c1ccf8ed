-- What a document claims of other contents (image specification, "Image Index", "Image Manifest", "Content Descriptors"; 1.1.0-rc2, "Artifact Manifest").
use Rattle.std.specs.Prelude.{ℕ, List, [], ◌∷◌, ◌++◌, codes, map, Bool, true, false, ◌&&◌, Option, Some, None, option_and_then, unwrap_or}
use Rattle.serde_json.specs.Data.{Data, Items, no_items, item}
use Rattle.serde_json.specs.Find.{as_str, as_number, as_u64, as_array, get}
use Rattle.oci_model.specs.Means.{unless_null}
use Rattle.oci_layout.specs.Kinds.{kind_of, is_nondistributable}
use Rattle.oci_layout.specs.declared.kind.Kind.{Kind}
use Rattle.oci_layout.specs.declared.kind.Kind.TheVariants as kind
use Rattle.oci_layout.specs.declared.claim.Role.{Role}
use Rattle.oci_layout.specs.declared.claim.Role.TheVariants.{Manifest, Config, Layer, Blob, Subject}
use Rattle.oci_layout.specs.declared.claim.Claim.{Claim}

-- the string under a name, the empty one where there is none
abbrev pub string_at : List ℕ → Data → List ℕ
string_at name d = unwrap_or (option_and_then as_str (get name d)) []

-- the number under a name, 0 where there is none
abbrev pub number_at : List ℕ → Data → ℕ
number_at name d = unwrap_or (option_and_then as_u64 (option_and_then as_number (get name d))) 0

abbrev pub list_of : Items → List Data
list_of no_items = []
list_of (item d ds) = d ∷ list_of ds

-- the items of the array under a name, none where there is none
abbrev pub items_at : List ℕ → Data → List Data
items_at name d = list_of (unwrap_or (option_and_then as_array (get name d)) no_items)

abbrev pub has_some : List Data → Bool
has_some [] = false
has_some (d ∷ ds) = true

-- what a descriptor claims
abbrev pub claim_of : Role → Data → Claim
claim_of role d = record {
  role = role;
  kind = kind_of (string_at (codes "mediaType") d);
  elsewhere = is_nondistributable (string_at (codes "mediaType") d) && has_some (items_at (codes "urls") d);
  digest = string_at (codes "digest") d;
  size = number_at (codes "size") d;
}

-- what the descriptor under a name claims, if there is one
abbrev pub one_claim : Role → Option Data → List Claim
one_claim role None = []
one_claim role (Some d) = claim_of role d ∷ []

abbrev pub claim_at : List ℕ → Role → Data → List Claim
claim_at name role d = one_claim role (option_and_then unless_null (get name d))

-- what the descriptors of the array under a name claim
abbrev pub claims_at : List ℕ → Role → Data → List Claim
claims_at name role d = map (claim_of role) (items_at name d)

abbrev pub index_claims : Data → List Claim
index_claims d = claims_at (codes "manifests") Manifest d ++ claim_at (codes "subject") Subject d

abbrev pub manifest_claims : Data → List Claim
manifest_claims d = claim_at (codes "config") Config d ++ claims_at (codes "layers") Layer d ++ claim_at (codes "subject") Subject d

abbrev pub artifact_claims : Data → List Claim
artifact_claims d = claims_at (codes "blobs") Blob d ++ claim_at (codes "subject") Subject d

-- what a document of a kind claims
abbrev pub claims_of : Kind → Data → List Claim
claims_of kind.Index d = index_claims d
claims_of kind.DockerList d = index_claims d
claims_of kind.Manifest d = manifest_claims d
claims_of kind.DockerManifest d = manifest_claims d
claims_of kind.Artifact d = artifact_claims d
claims_of _ d = []

-- the descriptor under a name, if there is one
abbrev pub one_item : Option Data → List Data
one_item None = []
one_item (Some d) = d ∷ []

abbrev pub item_at : List ℕ → Data → List Data
item_at name d = one_item (option_and_then unless_null (get name d))

-- the descriptors of documents, in the order of what they claim
abbrev pub index_descriptors : Data → List Data
index_descriptors d = items_at (codes "manifests") d ++ item_at (codes "subject") d

abbrev pub manifest_descriptors : Data → List Data
manifest_descriptors d = item_at (codes "config") d ++ items_at (codes "layers") d ++ item_at (codes "subject") d

abbrev pub artifact_descriptors : Data → List Data
artifact_descriptors d = items_at (codes "blobs") d ++ item_at (codes "subject") d

-- those of a document of a kind
abbrev pub descriptors_of : Kind → Data → List Data
descriptors_of kind.Index d = index_descriptors d
descriptors_of kind.DockerList d = index_descriptors d
descriptors_of kind.Manifest d = manifest_descriptors d
descriptors_of kind.DockerManifest d = manifest_descriptors d
descriptors_of kind.Artifact d = artifact_descriptors d
descriptors_of _ d = []
