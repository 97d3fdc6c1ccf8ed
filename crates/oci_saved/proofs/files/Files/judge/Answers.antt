use Rattle.std.proofs.Common.{sym, ◌∙◌}
use Rattle.oci_saved.proofs.Found.{missing_judged, judged_there}
use Rattle.oci_saved.proofs.files.Files.judge.Goals as goal

pub returns-in-Some : goal.returns-in-Some
returns-in-Some g c =
    judged_there (g.S.Source.steady c.args.self.now.source.now) c.args.self.now.index.now.places.items (g.S.Source.bytes c.args.self.now.source.now) c.args.path.now c.args.digest.now c.in-Some.extent
    c.judge_extent.result (sym c.in-Some.is ∙ c.in_ok-extent.ensures) c.judge_extent.ensures

pub returns-in-None : goal.returns-in-None
returns-in-None g c =
    missing_judged (g.S.Source.steady c.args.self.now.source.now) c.args.self.now.index.now.places.items (g.S.Source.bytes c.args.self.now.source.now) c.args.path.now c.args.digest.now
    (sym c.in-None.is ∙ c.in_ok-extent.ensures)
