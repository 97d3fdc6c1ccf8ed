use Rattle.std.proofs.Common.{◌≡◌, ◌∙◌, ap, get_or}
use Rattle.std.specs.Prelude.{Vec}
use Rattle.std.specs.declared.alloc.Global.{Global}
use Rattle.oci_descriptor.specs.declared.descriptor.Descriptor.{Descriptor}
use Rattle.oci_select.proofs.Places.{same_choice}
use Rattle.oci_select.proofs.choice.select.Goals as goal

pub returns-in-Some-clause-alone : goal.returns-in-Some-clause-alone
returns-in-Some-clause-alone c = λ e h.
    let m = c.index.result.now in
    let there : m ≡ get_or c.args.index.now.manifests.items c.in-Some.i m = c.index.ensures ∙ ap (λ (v : Vec Descriptor Global). get_or v.items c.in-Some.i m) c.manifests.ensures in
    same_choice c.args.index.now.manifests.items c.args.wanted.now c.in-Some.i m e (rw c.in-Some.is at c.in_ok-i.ensures.some) there (rw c.in-Some.is at c.in_ok-i.ensures.alone) h

pub returns-in-None-clause-none : goal.returns-in-None-clause-none
returns-in-None-clause-none c = rw c.in-None.is at c.in_ok-i.ensures.none
