use Rattle.oci_archive.specs.Layouts.{contents_at, tops_at}
use Rattle.oci_verify.proofs.Archives.{none_of, placed_right}
use Rattle.oci_verify.proofs.verifier.Verifier.verify_placed.Goals as goal

pub returns-else-not-is_empty-clause-right : goal.returns-else-not-is_empty-clause-right
returns-else-not-is_empty-clause-right g c = λ full.
    let placed = c.args.placed.now in
    let places = placed.index.now.places.items in
    let bytes = g.S.Source.bytes placed.source.now in
    let none = none_of c.in-Ok.found.items _ c.is_empty.result c.in-Ok.found.ok.0 c.is_empty.ensures c.if-not-is_empty.false in
    placed_right (g.B.RuleBooks.rules c.args.self.now.books.now) c.args.self.now.options.now (g.S.Source.steady placed.source.now) places (tops_at places bytes) (contents_at places bytes) c.verify.result (c.in-Ok.ensures.none.0 none) (c.verify.ensures.right full)
