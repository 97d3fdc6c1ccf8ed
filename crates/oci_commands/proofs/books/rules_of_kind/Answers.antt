use Rattle.std.proofs.Common.{◌≡◌, ◌∙◌, ◌++◌, ◌∷◌, [], ap, map, string_bytes, subst, sym}
use Rattle.std.proofs.lemmas.Result.{IfOk-weaker}
use Rattle.std.specs.List.{flat_map}
use Rattle.oci_rules.specs.Tables.{rule_of}
use Rattle.oci_commands.specs.Books.{Rows}
use Rattle.oci_commands.proofs.Rows.{book_all, book_next, flat_of_map}
use Rattle.oci_commands.proofs.books.rules_of_kind.Goals as goal

pub loop-book-preserved : goal.loop-book-preserved
loop-book-preserved g c =
    book_next (λ b. map rule_of b.now) c.deref-book-items.result.now c.loop-book.book-index _ [] _ _ c.loop-book-test.true c.loop-book.invariant c.in_ok-add_rows.ensures

pub returns : goal.returns
returns g c =
    let books = c.deref-book-items.result.now in
    let rows = map string_bytes c.loop-book.rows.items in
    let all = book_all (λ b. map rule_of b.now) books c.loop-book.book-index [] rows c.loop-book-test.false c.loop-book.invariant in
    let same : flat_map (λ b. map rule_of b.now) books ≡ g.B.RuleBooks.rules c.args.books.now c.args.kind = ap (flat_map (λ b. map rule_of b.now)) c.deref-book-items.ensures.value ∙ c.in_ok-found.ensures in
    IfOk-weaker c.section_of.result _ _
    (λ t is. (c.title.result.now, rows, subst (λ q. Rows q [] rows) same all, is ∙ ap (λ q. c.title.result.now ++ 10 ∷ q) (sym (flat_of_map string_bytes c.loop-book.rows.items)))) c.section_of.ensures
