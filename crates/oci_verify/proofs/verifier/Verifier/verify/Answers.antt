use Rattle.std.proofs.Common.{◌≡◌, None, inl, inr, refl, false}
use Rattle.std.specs.Prelude.{◌⊎◌, codes}
use Rattle.oci_layout.specs.Sound.{IsLarger}
use Rattle.oci_verify.specs.Layouts.{IsRightLayout}
use Rattle.oci_verify.proofs.Layouts.{answer_none, answer_of, in_any_case, in_case, in_no_case}
use Rattle.oci_verify.proofs.verifier.Verifier.verify.Goals as goal

pub returns-in-Ok-clause-sound : goal.returns-in-Ok-clause-sound
returns-in-Ok-clause-sound g c = λ zero full. c.in-Ok.ensures.sound (c.status_of.ensures.zero zero) full

pub returns-in-Ok-clause-right : goal.returns-in-Ok-clause-right
returns-in-Ok-clause-right g c = λ full.
    let layout = c.args.layout.now in
    let options = c.args.self.now.options.now in
    let steady = g.L.Store.steady layout in
    let tops = g.L.ImageLayout.tops layout in
    let contents = g.L.Store.contents layout in
    answer_of steady tops contents (IsRightLayout (g.B.RuleBooks.rules c.args.self.now.books.now) options (g.L.ImageLayout.names layout)) c.in-Ok.is_right c.status_of.result c.status_of.ensures.right c.status_of.ensures.wrong
    (c.in-Ok.ensures.right full)

pub returns-in-Ok-clause-no_index : goal.returns-in-Ok-clause-no_index
returns-in-Ok-clause-no_index g c =
    let layout = c.args.layout.now in
    let options = c.args.self.now.options.now in
    let steady = g.L.Store.steady layout in
    let tops = g.L.ImageLayout.tops layout in
    let contents = g.L.Store.contents layout in
    in_no_case tops (λ t. t (codes "index.json") ≡ None) (c.status_of.result ≡ 3) c.in-Ok.ensures.index

pub returns-in-Ok-clause-too_large : goal.returns-in-Ok-clause-too_large
returns-in-Ok-clause-too_large g c =
    let layout = c.args.layout.now in
    let options = c.args.self.now.options.now in
    let steady = g.L.Store.steady layout in
    let tops = g.L.ImageLayout.tops layout in
    let contents = g.L.Store.contents layout in
    in_case tops (λ t. IsLarger options.limit (t (codes "index.json"))) (c.in-Ok.is_right ≡ false) ((c.status_of.result ≡ 1) ⊎ (c.status_of.result ≡ 3))
    (λ wrong. inl (c.status_of.ensures.wrong wrong)) c.in-Ok.ensures.large

pub returns-clause-right : goal.returns-clause-right
returns-clause-right g c = λ full.
    let layout = c.args.layout.now in
    let options = c.args.self.now.options.now in
    let steady = g.L.Store.steady layout in
    let tops = g.L.ImageLayout.tops layout in
    let contents = g.L.Store.contents layout in
    answer_none steady tops contents (IsRightLayout (g.B.RuleBooks.rules c.args.self.now.books.now) options (g.L.ImageLayout.names layout))

pub returns-clause-no_index : goal.returns-clause-no_index
returns-clause-no_index g c =
    let layout = c.args.layout.now in
    let options = c.args.self.now.options.now in
    let steady = g.L.Store.steady layout in
    let tops = g.L.ImageLayout.tops layout in
    let contents = g.L.Store.contents layout in
    in_any_case tops (λ t. t (codes "index.json") ≡ None) (3 ≡ 3) refl

pub returns-clause-too_large : goal.returns-clause-too_large
returns-clause-too_large g c =
    let layout = c.args.layout.now in
    let options = c.args.self.now.options.now in
    let steady = g.L.Store.steady layout in
    let tops = g.L.ImageLayout.tops layout in
    let contents = g.L.Store.contents layout in
    in_any_case tops (λ t. IsLarger options.limit (t (codes "index.json"))) ((3 ≡ 1) ⊎ (3 ≡ 3)) (inr refl)
