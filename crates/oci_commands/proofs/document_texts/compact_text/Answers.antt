use Rattle.oci_schemas.specs.Kinds.{shape_of}
use Rattle.oci_commands.proofs.Held.{compact_made}
use Rattle.oci_commands.proofs.document_texts.compact_text.Goals as goal

pub returns : goal.returns
returns c = record {
  ok = compact_made (shape_of c.args.kind) c.args.bytes.now c.new-text.result.items _ c.in_ok-write_compact.ensures.ok c.new-text.ensures.items;
  none = tt;
}
