use Rattle.std.proofs.Common.{arith}
use Rattle.oci_json.proofs.Bytes.{appends_next}
use Rattle.oci_json.proofs.writing.write_text.Goals as goal

pub loop-written-preserved : goal.loop-written-preserved
loop-written-preserved g c =
    let i = c.loop-written.invariant in
    record {
      below = search (arith, c.in_ok-count.ensures.bound, i.below);
      so_far = appends_next _ _ _ c.args.bytes.now c.loop-written.written c.in_ok-count.count i.so_far c.in_ok-count.ensures.bytes;
    }
