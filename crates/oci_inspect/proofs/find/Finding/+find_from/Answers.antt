use Rattle.std.proofs.Common.{sym, ◌∙◌}
use Rattle.std.specs.Option.{option_copied}
use Rattle.oci_inspect.proofs.Leading.{found_below, why_below, image_here, no_image_here, no_index_here, none_here}
use Rattle.oci_inspect.proofs.find.Finding.+find_from.Goals as goal

pub returns-then-not-is_index-clause-found : goal.returns-then-not-is_index-clause-found
returns-then-not-is_index-clause-found g t c =
    let store = c.args.self.now.contents.store.now in
    image_here (g.S.Store.contents store) (option_copied c.args.self.now.platform) c.args.depth c.args.index.now.manifests.items c.in-Ok.descriptor.now c.image_of.result
    c.requires.depth c.in-Ok.ensures.ok (sym c.is_index.ensures ∙ c.if-not-is_index.true) c.image_of.ensures.ok

pub returns-then-not-is_index-clause-why : goal.returns-then-not-is_index-clause-why
returns-then-not-is_index-clause-why g t c =
    let store = c.args.self.now.contents.store.now in
    no_image_here (g.S.Store.steady store) (g.S.Store.contents store) (option_copied c.args.self.now.platform) c.args.depth c.args.index.now.manifests.items
    c.in-Ok.descriptor.now c.image_of.result c.in-Ok.ensures.ok (sym c.is_index.ensures ∙ c.if-not-is_index.true) c.image_of.ensures.err

pub returns-in-Ok-index_of-clause-found : goal.returns-in-Ok-index_of-clause-found
returns-in-Ok-index_of-clause-found g t c =
    let store = c.args.self.now.contents.store.now in
    found_below (g.S.Store.contents store) (option_copied c.args.self.now.platform) c.args.depth c.args.index.now.manifests.items c.in-Ok.descriptor.now
    c.in-Ok-index_of.below c.find_from.result c.in-Ok.ensures.ok (sym c.is_index.ensures ∙ c.if-not-is_index.false) c.in-Ok-index_of.ensures.ok c.find_from.ensures.found

pub returns-in-Ok-index_of-clause-why : goal.returns-in-Ok-index_of-clause-why
returns-in-Ok-index_of-clause-why g t c =
    let store = c.args.self.now.contents.store.now in
    why_below (g.S.Store.steady store) (g.S.Store.contents store) (option_copied c.args.self.now.platform) c.args.depth c.args.index.now.manifests.items
    c.in-Ok.descriptor.now c.in-Ok-index_of.below c.find_from.result c.in-Ok.ensures.ok (sym c.is_index.ensures ∙ c.if-not-is_index.false)
    c.in-Ok-index_of.ensures.ok c.find_from.ensures.why

pub returns-in-Err-index_of-clause-why : goal.returns-in-Err-index_of-clause-why
returns-in-Err-index_of-clause-why g t c =
    let store = c.args.self.now.contents.store.now in
    no_index_here (g.S.Store.steady store) (g.S.Store.contents store) (option_copied c.args.self.now.platform) c.args.depth c.args.index.now.manifests.items
    c.in-Ok.descriptor.now c.in-Err-index_of.error c.in-Ok.ensures.ok (sym c.is_index.ensures ∙ c.if-not-is_index.false) c.in-Err-index_of.ensures.err

pub returns-in-Err-clause-why : goal.returns-in-Err-clause-why
returns-in-Err-clause-why g t c =
    let store = c.args.self.now.contents.store.now in
    none_here (g.S.Store.steady store) (g.S.Store.contents store) (option_copied c.args.self.now.platform) c.args.depth c.args.index.now.manifests.items
    c.in-Err.error c.in-Err.ensures.err
