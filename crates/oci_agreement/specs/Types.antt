-- Media types of configurations and layers (image specification, "OCI Image Media Types"; Docker's "Image Manifest Version 2, Schema 2").
use Rattle.std.specs.Prelude.{ℕ, List, codes, bytes_eq, Bool, ◌||◌}

-- the configuration of an image of OCI's format
abbrev pub oci_config : List ℕ
oci_config = codes "application/vnd.oci.image.config.v1+json"

abbrev pub docker_config : List ℕ
docker_config = codes "application/vnd.docker.container.image.v1+json"

abbrev pub docker_manifest : List ℕ
docker_manifest = codes "application/vnd.docker.distribution.manifest.v2+json"

-- the configuration of an image of either format
abbrev pub is_config_type : List ℕ → Bool
is_config_type t = bytes_eq t oci_config || bytes_eq t docker_config

-- a layer that is an archive as it stands (image specification, "Image Layer Filesystem Changeset")
abbrev pub is_plain_type : List ℕ → Bool
is_plain_type t = bytes_eq t (codes "application/vnd.oci.image.layer.v1.tar") || bytes_eq t (codes "application/vnd.oci.image.layer.nondistributable.v1.tar")

-- a compressed one, of either format
abbrev pub is_compressed_type : List ℕ → Bool
is_compressed_type t =
    bytes_eq t (codes "application/vnd.oci.image.layer.v1.tar+gzip")
    || (bytes_eq t (codes "application/vnd.oci.image.layer.v1.tar+zstd")
    || (bytes_eq t (codes "application/vnd.oci.image.layer.nondistributable.v1.tar+gzip")
    || (bytes_eq t (codes "application/vnd.oci.image.layer.nondistributable.v1.tar+zstd")
    || (bytes_eq t (codes "application/vnd.docker.image.rootfs.diff.tar.gzip")
    || bytes_eq t (codes "application/vnd.docker.image.rootfs.foreign.diff.tar.gzip")))))

abbrev pub is_layer_type : List ℕ → Bool
is_layer_type t = is_plain_type t || is_compressed_type t
