use Rattle.std.proofs.Common.{subst}
use Rattle.std.specs.Prelude.{option_map}
use Rattle.serde_json.specs.View.{view}
use Rattle.oci_json.specs.Engines.{ReadsAs}
use Rattle.oci_verify.specs.Images.{AllKeep, BytesKeep, IsFound}
use Rattle.oci_verify.proofs.Agreeing.{answers, bytes_keep, no_bytes, over_each, yes}
use Rattle.oci_verify.proofs.images.Images.bytes_agree.Goals as goal

pub returns-in-Some : goal.returns-in-Some
returns-in-Some g c =
    let asked = c.args.self.now.asked.now in
    let limit = c.args.self.now.documents.limit in
    let store = c.args.self.now.documents.store.now in
    let steady = g.S.Store.steady store in
    let contents = g.S.Store.contents store in
    let bytes = c.args.index.now in
    let d = view c.in-Some.index in
    let reads = subst (λ o. IsFound (ReadsAs bytes) (option_map (λ v. view v) o)) c.in-Some.is c.in_ok-index.ensures in
    answers steady contents (λ k. AllKeep asked limit k d) (λ k. BytesKeep asked limit k bytes) c.index_agrees.result (over_each steady contents _ (λ k. bytes_keep asked limit k bytes d reads)) c.index_agrees.ensures

pub returns-in-None : goal.returns-in-None
returns-in-None g c =
    let asked = c.args.self.now.asked.now in
    let limit = c.args.self.now.documents.limit in
    let store = c.args.self.now.documents.store.now in
    let steady = g.S.Store.steady store in
    let contents = g.S.Store.contents store in
    let bytes = c.args.index.now in
    let none = subst (λ o. IsFound (ReadsAs bytes) (option_map (λ v. view v) o)) c.in-None.is c.in_ok-index.ensures in
    yes steady contents (λ k. BytesKeep asked limit k bytes) (over_each steady contents (λ k. BytesKeep asked limit k bytes) (λ k. no_bytes asked limit k bytes none))
