use Rattle.std.proofs.Common.{◌≡◌, false}
use Rattle.std.specs.Prelude.{codes}
use Rattle.oci_layout.specs.Sound.{IsLarger}
use Rattle.oci_verify.proofs.Layouts.{in_case, one_wrong, right_layout, sound_layout}
use Rattle.oci_verify.proofs.program.Verification.verify.Goals as goal

pub returns-clause-sound : goal.returns-clause-sound
returns-clause-sound g c =
    let layout = c.args.self.now.layout.now in
    let options = c.args.self.now.options.now in
    let steady = g.L.Store.steady layout in
    let names = g.L.ImageLayout.names layout in
    let tops = g.L.ImageLayout.tops layout in
    let contents = g.L.Store.contents layout in
    sound_layout options.limit tops contents options.quick c.in_ok-is_marked.is_marked c.in_ok-is_right.is_right c.are_both.result c.are_both.ensures
    c.in_ok-is_marked.ensures.marked c.in_ok-is_right.ensures.sound

pub returns-clause-right : goal.returns-clause-right
returns-clause-right g c = λ full.
    let layout = c.args.self.now.layout.now in
    let options = c.args.self.now.options.now in
    let steady = g.L.Store.steady layout in
    let names = g.L.ImageLayout.names layout in
    let tops = g.L.ImageLayout.tops layout in
    let contents = g.L.Store.contents layout in
    right_layout (g.B.RuleBooks.rules c.args.self.now.books.now) options steady names tops contents c.in_ok-is_marked.is_marked c.in_ok-is_right.is_right c.are_both.result c.are_both.ensures
    c.in_ok-is_marked.ensures.right (c.in_ok-is_right.ensures.right full)

pub returns-clause-index : goal.returns-clause-index
returns-clause-index g c = c.in_ok-is_right.ensures.index

pub returns-clause-large : goal.returns-clause-large
returns-clause-large g c =
    let layout = c.args.self.now.layout.now in
    let options = c.args.self.now.options.now in
    let steady = g.L.Store.steady layout in
    let names = g.L.ImageLayout.names layout in
    let tops = g.L.ImageLayout.tops layout in
    let contents = g.L.Store.contents layout in
    in_case tops (λ t. IsLarger options.limit (t (codes "index.json"))) (c.in_ok-is_right.is_right ≡ false) (c.are_both.result ≡ false)
    (one_wrong c.in_ok-is_marked.is_marked c.in_ok-is_right.is_right c.are_both.result c.are_both.ensures) c.in_ok-is_right.ensures.large
