use Rattle.std.proofs.Common.{None, Some, sym, subst, ◌∙◌}
use Rattle.std.specs.Prelude.{option_map}
use Rattle.serde_json.specs.View.{view}
use Rattle.oci_verify.specs.Images.{IsFound, KeepsFrom, KeepsWith, LeadsTo, OverContents}
use Rattle.oci_verify.proofs.Agreeing.{answers, keeps_here, no_image, no_manifest, over_each, over_map, yes}
use Rattle.oci_verify.proofs.images.Images.descriptor_agrees.Goals as goal

pub returns-then-not-is_image : goal.returns-then-not-is_image
returns-then-not-is_image g c =
    let asked = c.args.self.now.asked.now in
    let limit = c.args.self.now.documents.limit in
    let store = c.args.self.now.documents.store.now in
    let steady = g.S.Store.steady store in
    let contents = g.S.Store.contents store in
    let d = view c.args.descriptor.now in
    yes steady contents (λ k. KeepsFrom asked limit k d)
    (over_each steady contents (λ k. KeepsFrom asked limit k d) (λ k. no_image asked limit k d (sym c.is_image.ensures ∙ c.if-not-is_image.true)))

pub returns-in-Some : goal.returns-in-Some
returns-in-Some g c =
    let asked = c.args.self.now.asked.now in
    let limit = c.args.self.now.documents.limit in
    let store = c.args.self.now.documents.store.now in
    let steady = g.S.Store.steady store in
    let contents = g.S.Store.contents store in
    let d = view c.args.descriptor.now in
    let m = view c.in-Some.manifest.value in
    let is = sym c.is_image.ensures ∙ c.if-not-is_image.false in
    let found = subst (λ o. OverContents steady contents (λ k. IsFound (LeadsTo limit k (Some d)) (option_map (λ x. view x.value) o))) c.in-Some.is c.in_ok-manifest.ensures in
    answers steady contents (λ k. KeepsWith asked limit k d m) (λ k. KeepsFrom asked limit k d) c.manifest_agrees.result
    (over_map steady contents (λ k. LeadsTo limit k (Some d) m) _ (λ k doc. keeps_here asked limit k d m is doc) found) c.manifest_agrees.ensures

pub returns-in-None : goal.returns-in-None
returns-in-None g c =
    let asked = c.args.self.now.asked.now in
    let limit = c.args.self.now.documents.limit in
    let store = c.args.self.now.documents.store.now in
    let steady = g.S.Store.steady store in
    let contents = g.S.Store.contents store in
    let d = view c.args.descriptor.now in
    let none = subst (λ o. OverContents steady contents (λ k. IsFound (LeadsTo limit k (Some d)) (option_map (λ x. view x.value) o))) c.in-None.is c.in_ok-manifest.ensures in
    yes steady contents (λ k. KeepsFrom asked limit k d)
    (over_map steady contents (λ k. IsFound (LeadsTo limit k (Some d)) None) (λ k. KeepsFrom asked limit k d) (λ k h. no_manifest asked limit k d h) none)
