use Rattle.std.proofs.Common.{subst}
use Rattle.oci_image.specs.ImageManifest.{image_manifest_plain}
use Rattle.oci_json.specs.Engines.{MeansBytes}
use Rattle.oci_shapes.specs.ImageManifest.{image_manifest}
use Rattle.oci_inspect.proofs.Configs.{config_wrong}
use Rattle.oci_inspect.proofs.contents.Contents.summary_of.Goals as goal

pub returns-in-Ok-clause-err : goal.returns-in-Ok-clause-err
returns-in-Ok-clause-err g c =
    let store = c.args.self.now.store.now in
    config_wrong (g.S.Store.steady store) (g.S.Store.contents store) c.args.found.now.descriptor c.args.found.now.bytes.items c.in-Ok.manifest c.summary_with.result
    (subst (λ b. MeansBytes image_manifest b (image_manifest_plain c.in-Ok.manifest)) c.as_slice.ensures.value c.in-Ok.ensures.ok) c.summary_with.ensures.err
