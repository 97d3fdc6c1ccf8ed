use Rattle.oci_inspect.proofs.Configs.{platform_read, config_wrong, manifest_wrong}
use Rattle.oci_inspect.proofs.contents.Contents.platform_in.Goals as goal

pub returns-in-Ok : goal.returns-in-Ok
returns-in-Ok g c =
    let store = c.args.self.now.store.now in
    let contents = g.S.Store.contents store in
    record {
      ok = platform_read contents c.args.bytes.now c.in-Ok.manifest c.platform_by.result c.in-Ok.ensures.ok c.platform_by.ensures.ok;
      err = config_wrong (g.S.Store.steady store) contents c.args.descriptor.now c.args.bytes.now c.in-Ok.manifest c.platform_by.result c.in-Ok.ensures.ok c.platform_by.ensures.err;
    }

pub returns-in-Err-clause-err : goal.returns-in-Err-clause-err
returns-in-Err-clause-err g c =
    let store = c.args.self.now.store.now in
    manifest_wrong (g.S.Store.steady store) (g.S.Store.contents store) c.args.descriptor.now c.args.bytes.now c.in-Err.error c.in-Err.ensures.err
