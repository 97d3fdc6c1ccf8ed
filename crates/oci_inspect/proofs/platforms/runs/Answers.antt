use Rattle.oci_inspect.proofs.Running.{does_run}
use Rattle.oci_inspect.proofs.platforms.runs.Goals as goal

pub returns : goal.returns
returns c = does_run c.in_ok-index.index.manifests.items _ c.args.wanted.now c.args.platform c.in_ok-select.field-0 c.is_some.result c.in_ok-index.ensures
    c.with_platform-lone.ensures c.in_ok-select.ensures.some c.in_ok-select.ensures.none c.is_some.ensures
