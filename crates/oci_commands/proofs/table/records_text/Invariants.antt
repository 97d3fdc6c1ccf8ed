use Rattle.std.proofs.Common.{take, string_bytes}
use Rattle.oci_commands.specs.Tables.{IsRecordText}
use Rattle.oci_commands.specs.Texts.{Joins}
use Rattle.oci_commands.proofs.table.records_text.Given as goal

abbrev pub invariant-loop-record : goal.invariant-loop-record
invariant-loop-record g l = Joins (λ r. IsRecordText (g.T.Records.shape_at l.table) r.now) (take l.record-index l.record-items) (string_bytes l.text)
