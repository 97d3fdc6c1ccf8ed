use Rattle.oci_inspect.proofs.Showing.{shown, unfound, unwritten}
use Rattle.oci_inspect.proofs.show.show.Goals as goal

pub returns-in-Ok : goal.returns-in-Ok
returns-in-Ok g c =
    let layout = c.args.layout.now in
    let tops = g.L.ImageLayout.tops layout in
    let contents = g.L.Store.contents layout in
    record {
      ok = shown c.args.asked.now tops contents c.in-Ok.found (g.W.Write.contents c.args.writer.now) (g.W.Write.contents c.write_part.new.writer) c.write_part.result c.in-Ok.ensures.found c.write_part.ensures.ok;
      err = unwritten c.args.asked.now (g.L.Store.steady layout) tops contents c.in-Ok.found c.write_part.result c.in-Ok.ensures.found c.write_part.ensures.err;
    }

pub returns-clause-err : goal.returns-clause-err
returns-clause-err g c =
    let layout = c.args.layout.now in
    unfound c.args.asked.now (g.L.Store.steady layout) (g.L.ImageLayout.tops layout) (g.L.Store.contents layout) c.in-Err.error c.in-Err.ensures.why
