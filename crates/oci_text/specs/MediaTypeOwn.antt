-- What stands for a media type in the Docker image manifest.
use Rattle.std.specs.Prelude.{ℕ, List, codes, Option, Some, None}
use Rattle.oci_text.specs.declared.media_type.MediaType.{MediaType}
use Rattle.oci_text.specs.declared.media_type.MediaType.TheVariants.{ImageManifest, ImageIndex, ImageLayerGzip, ImageConfig}

-- what stands for it in the Docker image manifest, version 2, schema 2
abbrev pub docker_name : MediaType → Option (List ℕ)
docker_name ImageIndex = Some (codes "application/vnd.docker.distribution.manifest.list.v2+json")
docker_name ImageManifest = Some (codes "application/vnd.docker.distribution.manifest.v2+json")
docker_name ImageConfig = Some (codes "application/vnd.docker.container.image.v1+json")
docker_name ImageLayerGzip = Some (codes "application/vnd.docker.image.rootfs.diff.tar.gzip")
docker_name _ = None
