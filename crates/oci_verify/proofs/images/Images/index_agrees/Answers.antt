use Rattle.serde_json.specs.Find.{as_array, get}
use Rattle.std.specs.Prelude.{codes, option_and_then}
use Rattle.std.specs.List.{All}
use Rattle.serde_json.specs.View.{view}
use Rattle.oci_verify.specs.Images.{AllKeep, KeepsFrom}
use Rattle.oci_verify.proofs.Agreeing.{all_items, answers, no_items_keep, over_each, yes}
use Rattle.oci_verify.proofs.images.Images.index_agrees.Goals as goal

pub returns-in-Some : goal.returns-in-Some
returns-in-Some g c =
    let asked = c.args.self.now.asked.now in
    let limit = c.args.self.now.documents.limit in
    let store = c.args.self.now.documents.store.now in
    let steady = g.S.Store.steady store in
    let contents = g.S.Store.contents store in
    let d = view c.args.index.now in
    let vs = c.in-Some.manifests.now.items in
    answers steady contents (λ k. All (λ v. KeepsFrom asked limit k (view v)) vs) (λ k. AllKeep asked limit k d) c.manifests_agree.result
    (over_each steady contents _ (λ k. all_items (KeepsFrom asked limit k) vs (option_and_then as_array (get (codes "manifests") d)) c.in-Some.ensures)) c.manifests_agree.ensures

pub returns-in-None : goal.returns-in-None
returns-in-None g c =
    let asked = c.args.self.now.asked.now in
    let limit = c.args.self.now.documents.limit in
    let store = c.args.self.now.documents.store.now in
    let steady = g.S.Store.steady store in
    let contents = g.S.Store.contents store in
    let d = view c.args.index.now in
    yes steady contents (λ k. AllKeep asked limit k d)
    (over_each steady contents (λ k. AllKeep asked limit k d) (λ k. no_items_keep (KeepsFrom asked limit k) (option_and_then as_array (get (codes "manifests") d)) c.in-None.ensures))
