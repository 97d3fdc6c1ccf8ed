use Rattle.std.proofs.Common.{◌≡◌, false, refl, subst, IfOk}
use Rattle.std.specs.Prelude.{codes}
use Rattle.oci_layout.specs.Sound.{IsLarger, IsTop}
use Rattle.oci_verify.specs.Layouts.{IsJudgedIndex}
use Rattle.oci_verify.proofs.Layouts.{any_ok, any_wrong, contents_sound, contents_right, not_missing, not_large, large_there, large_index, in_any_case}
use Rattle.oci_verify.proofs.program.Verification.verify_contents.Goals as goal

pub returns-in-Bytes-clause-sound : goal.returns-in-Bytes-clause-sound
returns-in-Bytes-clause-sound g c =
    let layout = c.args.self.now.layout.now in
    let options = c.args.self.now.options.now in
    let steady = g.L.Store.steady layout in
    let names = g.L.ImageLayout.names layout in
    let tops = g.L.ImageLayout.tops layout in
    let contents = g.L.Store.contents layout in
    let top = subst (IsTop options.limit steady tops (codes "index.json")) c.in-Bytes.is c.in_ok-index.ensures in
    let found = subst (λ l. IfOk c.verify_index.result (IsJudgedIndex (g.B.RuleBooks.rules c.args.self.now.books.now) options steady names contents l)) c.as_slice-index.ensures.value c.verify_index.ensures in
    contents_sound (g.B.RuleBooks.rules c.args.self.now.books.now) options steady names tops contents c.in-Bytes.index c.verify_index.result top found

pub returns-in-Bytes-clause-right : goal.returns-in-Bytes-clause-right
returns-in-Bytes-clause-right g c =
    let layout = c.args.self.now.layout.now in
    let options = c.args.self.now.options.now in
    let steady = g.L.Store.steady layout in
    let names = g.L.ImageLayout.names layout in
    let tops = g.L.ImageLayout.tops layout in
    let contents = g.L.Store.contents layout in
    let top = subst (IsTop options.limit steady tops (codes "index.json")) c.in-Bytes.is c.in_ok-index.ensures in
    let found = subst (λ l. IfOk c.verify_index.result (IsJudgedIndex (g.B.RuleBooks.rules c.args.self.now.books.now) options steady names contents l)) c.as_slice-index.ensures.value c.verify_index.ensures in
    contents_right (g.B.RuleBooks.rules c.args.self.now.books.now) options steady names tops contents c.in-Bytes.index c.verify_index.result top found

pub returns-in-Bytes-clause-index : goal.returns-in-Bytes-clause-index
returns-in-Bytes-clause-index g c =
    let layout = c.args.self.now.layout.now in
    let options = c.args.self.now.options.now in
    let steady = g.L.Store.steady layout in
    let names = g.L.ImageLayout.names layout in
    let tops = g.L.ImageLayout.tops layout in
    let contents = g.L.Store.contents layout in
    let top = subst (IsTop options.limit steady tops (codes "index.json")) c.in-Bytes.is c.in_ok-index.ensures in
    any_ok c.verify_index.result _ (not_missing options.limit steady tops c.in-Bytes.index top)

pub returns-in-Bytes-clause-large : goal.returns-in-Bytes-clause-large
returns-in-Bytes-clause-large g c =
    let layout = c.args.self.now.layout.now in
    let options = c.args.self.now.options.now in
    let steady = g.L.Store.steady layout in
    let names = g.L.ImageLayout.names layout in
    let tops = g.L.ImageLayout.tops layout in
    let contents = g.L.Store.contents layout in
    let top = subst (IsTop options.limit steady tops (codes "index.json")) c.in-Bytes.is c.in_ok-index.ensures in
    any_wrong c.verify_index.result tops (λ t. IsLarger options.limit (t (codes "index.json"))) (not_large options.limit steady tops c.in-Bytes.index top)

pub returns-in_ok-finish-in-TooLarge-clause-right : goal.returns-in_ok-finish-in-TooLarge-clause-right
returns-in_ok-finish-in-TooLarge-clause-right g c = λ full.
    let layout = c.args.self.now.layout.now in
    let options = c.args.self.now.options.now in
    let steady = g.L.Store.steady layout in
    let names = g.L.ImageLayout.names layout in
    let tops = g.L.ImageLayout.tops layout in
    let contents = g.L.Store.contents layout in
    large_index (g.B.RuleBooks.rules c.args.self.now.books.now) options steady names tops contents (subst (IsTop options.limit steady tops (codes "index.json")) c.in-TooLarge.is c.in_ok-index.ensures)

pub returns-in_ok-finish-in-TooLarge-clause-index : goal.returns-in_ok-finish-in-TooLarge-clause-index
returns-in_ok-finish-in-TooLarge-clause-index g c =
    let layout = c.args.self.now.layout.now in
    let options = c.args.self.now.options.now in
    let steady = g.L.Store.steady layout in
    let names = g.L.ImageLayout.names layout in
    let tops = g.L.ImageLayout.tops layout in
    let contents = g.L.Store.contents layout in
    large_there options.limit steady tops (subst (IsTop options.limit steady tops (codes "index.json")) c.in-TooLarge.is c.in_ok-index.ensures)

pub returns-in_ok-finish-in-TooLarge-clause-large : goal.returns-in_ok-finish-in-TooLarge-clause-large
returns-in_ok-finish-in-TooLarge-clause-large g c =
    let layout = c.args.self.now.layout.now in
    let options = c.args.self.now.options.now in
    let steady = g.L.Store.steady layout in
    let names = g.L.ImageLayout.names layout in
    let tops = g.L.ImageLayout.tops layout in
    let contents = g.L.Store.contents layout in
    in_any_case tops (λ t. IsLarger options.limit (t (codes "index.json"))) (false ≡ false) refl
