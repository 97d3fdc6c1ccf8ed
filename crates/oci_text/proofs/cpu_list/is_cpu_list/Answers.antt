-- The scan ends well exactly on a list.
use Rattle.std.proofs.Common.{◌∙◌, ap, sym, take_all}
use Rattle.std.specs.List.{fold}
use Rattle.oci_text.specs.CpuScan.{next_place, ends_list}
use Rattle.oci_text.specs.declared.cpu_list.Place.TheVariants.{BeforeLow}
use Rattle.oci_text.proofs.CpuLists.{lists}
use Rattle.oci_text.proofs.cpu_list.is_cpu_list.Goals as goal

pub returns : goal.returns
returns c =
    let place = c.loop-b.invariant ∙ ap (fold next_place BeforeLow) (take_all c.loop-b.b-index c.as_bytes-b-items.result.now c.loop-b-test.false ∙ c.as_bytes-b-items.ensures.value) in
    let whole = c.is_whole.ensures ∙ ap ends_list place in
    ((λ h. (lists c.args.text.now).0 (sym whole ∙ h)), (λ h. whole ∙ (lists c.args.text.now).1 h))
