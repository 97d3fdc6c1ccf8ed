use Rattle.std.proofs.Common.{arith}
use Rattle.oci_verify.proofs.Rereading.{small_kept}
use Rattle.oci_verify.proofs.documents.Documents.small_bytes_of.Goals as goal

pub returns : goal.returns
returns g c =
    let store = c.args.self.now.store.now in
    small_kept (g.S.Store.steady store) (g.S.Store.contents store) c.args.self.now.limit c.args.digest.now c.args.size c.bytes_of.result (omega arith) c.bytes_of.ensures
