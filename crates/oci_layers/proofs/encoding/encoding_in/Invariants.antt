-- none of the rows before has the media type
use Rattle.std.proofs.Common.{◌≡◌, map, drop}
use Rattle.oci_layers.specs.Encodings.{encoding_among, row_of}
use Rattle.oci_layers.proofs.encoding.encoding_in.Given as goal

abbrev pub invariant-loop-row : goal.invariant-loop-row
invariant-loop-row l = encoding_among (map row_of l.rows) l.media_type ≡ encoding_among (map row_of (drop l.row-index l.rows)) l.media_type
