use Rattle.std.proofs.Common.{◌∙◌, ◌++◌, List, ℕ, ap, map, string_bytes, subst}
use Rattle.oci_commands.specs.Tables.{IsRecordText}
use Rattle.oci_commands.specs.Texts.{Joins}
use Rattle.oci_commands.proofs.Lines.{joined_all, joined_next, joins_map}
use Rattle.oci_commands.proofs.table.records_text.Goals as goal

pub loop-record-preserved : goal.loop-record-preserved
loop-record-preserved g c =
    joined_next (λ r. IsRecordText (g.T.Records.shape_at c.args.table.now) r.now) c.deref-record-items.result.now c.loop-record.record-index _ (string_bytes c.loop-record.text)
    (string_bytes c.in_ok-lines.lines) _ c.loop-record-test.true (c.in_ok-push_str.ensures.bytes ∙ ap (λ (q : List ℕ). string_bytes c.loop-record.text ++ q) c.as_str.ensures.value)
    c.loop-record.invariant c.in_ok-lines.ensures

pub returns : goal.returns
returns g c =
    let f = g.T.Records.shape_at c.args.table.now in
    let all = joined_all (λ r. IsRecordText f r.now) c.deref-record-items.result.now c.loop-record.record-index (string_bytes c.loop-record.text) c.loop-record-test.false c.loop-record.invariant in
    subst (λ rs. Joins (IsRecordText f) (map (λ r. r.now) rs) (string_bytes c.loop-record.text)) c.deref-record-items.ensures.value
    (joins_map (IsRecordText f) (λ r. r.now) c.deref-record-items.result.now (string_bytes c.loop-record.text) all)
