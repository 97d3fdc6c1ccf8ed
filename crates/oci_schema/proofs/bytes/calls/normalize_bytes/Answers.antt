use Rattle.std.proofs.Common.{◌++◌, ap, ◌∙◌}
use Rattle.std.proofs.lemmas.Result.{on_ok_weaker}
use Rattle.oci_schema.proofs.Documents.{memory_no_json, memory_no_schema, memory_kind}
use Rattle.oci_schema.proofs.bytes.calls.normalize_bytes.Goals as goal

pub returns-clause-ok : goal.returns-clause-ok
returns-clause-ok g c =
    let made = c.in_ok-text.ensures.makes.ok in
    on_ok_weaker c.append.result (λ e. (made.0, made.1, e ∙ ap (λ t. c.args.out.now.items ++ t) (c.as_slice.ensures.value ∙ made.2))) c.append.ensures.ok

pub returns-clause-reads_back : goal.returns-clause-reads_back
returns-clause-reads_back g c =
    let made = c.in_ok-text.ensures.makes.ok in
    on_ok_weaker c.append.result (λ e. (made.0, made.1, made.3)) c.append.ensures.ok

pub returns-clause-json : goal.returns-clause-json
returns-clause-json g c = memory_no_json c.append.result _ c.append.ensures.kind

pub returns-clause-schema : goal.returns-clause-schema
returns-clause-schema g c = memory_no_schema c.append.result _ c.append.ensures.kind

pub returns-clause-kind : goal.returns-clause-kind
returns-clause-kind g c = memory_kind c.append.result c.append.ensures.kind
