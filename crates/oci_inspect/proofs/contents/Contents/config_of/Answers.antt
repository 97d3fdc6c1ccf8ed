use Rattle.oci_inspect.proofs.Configs.{config_read, config_unread, manifest_wrong}
use Rattle.oci_inspect.proofs.contents.Contents.config_of.Goals as goal

pub returns-in-Ok : goal.returns-in-Ok
returns-in-Ok g c =
    let store = c.args.self.now.store.now in
    let contents = g.S.Store.contents store in
    record {
      ok = config_read contents c.args.bytes.now c.in-Ok.manifest c.config_bytes.result c.in-Ok.ensures.ok c.config_bytes.ensures.ok;
      err = config_unread (g.S.Store.steady store) contents c.args.descriptor.now c.args.bytes.now c.in-Ok.manifest c.config_bytes.result c.in-Ok.ensures.ok c.config_bytes.ensures.err;
    }

pub returns-in-Err-clause-err : goal.returns-in-Err-clause-err
returns-in-Err-clause-err g c =
    let store = c.args.self.now.store.now in
    manifest_wrong (g.S.Store.steady store) (g.S.Store.contents store) c.args.descriptor.now c.args.bytes.now c.in-Err.error c.in-Err.ensures.err
