use Rattle.oci_json.proofs.Pieces.{filled_more}
use Rattle.oci_json.proofs.reading.bytes_from_reader.Goals as goal

pub loop-bytes-preserved : goal.loop-bytes-preserved
loop-bytes-preserved g c =
    let read = c.in_ok-count.ensures in
    (read.fits, filled_more _ _ _ _ _ _ _ read.front c.loop-bytes.invariant.1 read.ok)
