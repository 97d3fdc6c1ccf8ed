use Rattle.std.proofs.Common.{rules, tests, string_bytes, ap, ◌∙◌}
use Rattle.std.specs.Prelude.{bytes_eq}
use Rattle.std.specs.List.{list_any}
use Rattle.std.proofs.lemmas.Iterator.{YieldsList-from_slice}
use Rattle.std.proofs.lemmas.Iterator.Search.{any_from_yields_List}
use Rattle.oci_runtime_records.specs.declared.mount.Mount.{Mount}
use Rattle.oci_convert.proofs.volumes.is_mounted.Goals as goal

pub returns : goal.returns
returns c =
    any_from_yields_List (λ (m : Mount). bytes_eq (string_bytes m.destination) c.args.destination.now) _ _ c.any.result c.any.ensures.ran (YieldsList-from_slice c.deref.result.now (cc)) (λ x b q k. search (rules, tests))
    ∙ ap (list_any (λ (m : Mount). bytes_eq (string_bytes m.destination) c.args.destination.now)) c.deref.ensures.value
