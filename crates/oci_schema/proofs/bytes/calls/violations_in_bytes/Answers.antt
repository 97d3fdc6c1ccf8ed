use Rattle.std.proofs.Common.{map, sym, ap, ◌∙◌}
use Rattle.oci_schema.specs.Shapes.{schema_shape}
use Rattle.oci_schema.specs.Violations.{reported}
use Rattle.oci_schema.proofs.Documents.{accepted_document, none_listed}
use Rattle.oci_schema.proofs.bytes.calls.violations_in_bytes.Goals as goal

pub returns-then-accepted-clause-all : goal.returns-then-accepted-clause-all
returns-then-accepted-clause-all g c =
    let s = schema_shape (g.T.Records.shape_at c.args.records.now) c.args.schema.now in
    let k = c.in_ok-accepted.ensures c.if-accepted.true in
    (k.0, k.1, ap (map reported) c.new.ensures.items ∙ sym (none_listed s k.0 c.requires k.2))

pub returns-then-accepted-clause-none : goal.returns-then-accepted-clause-none
returns-then-accepted-clause-none g c =
    let s = schema_shape (g.T.Records.shape_at c.args.records.now) c.args.schema.now in
    let k = c.in_ok-accepted.ensures c.if-accepted.true in
    let m = accepted_document s c.args.bytes.now k.0 c.requires k.1 k.2 in
    ((λ h. (m.0, m.1)), (λ h. c.new.ensures.items))
