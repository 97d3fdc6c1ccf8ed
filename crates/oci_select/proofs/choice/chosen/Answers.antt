use Rattle.std.proofs.Common.{◌≡◌, ℕ, List, ◌∙◌, ap, subst}
use Rattle.std.specs.Prelude.{◌↔◌, IfSome, IsNone, Vec}
use Rattle.std.specs.declared.alloc.Global.{Global}
use Rattle.oci_descriptor.specs.declared.descriptor.Descriptor.{Descriptor}
use Rattle.oci_select.specs.Chosen.{IsChosen, NoneRuns}
use Rattle.oci_select.proofs.choice.chosen.Goals as goal

manifests_are : (c : goal.After-drop-platforms) → c.deref.result.now ≡ c.args.index.now.manifests.items
manifests_are c = c.deref.ensures.value ∙ ap (λ (v : Vec Descriptor Global). v.items) c.manifests.ensures

pub returns-clause-alone : goal.returns-clause-alone
returns-clause-alone c =
    subst (λ (ms : List Descriptor). IfSome c.first_of.result (λ i. (j : ℕ) → IsChosen ms c.args.wanted.now j → j ≡ i)) (manifests_are c) c.first_of.ensures.alone

pub returns-clause-none : goal.returns-clause-none
returns-clause-none c = subst (λ (ms : List Descriptor). IsNone c.first_of.result ↔ NoneRuns ms c.args.wanted.now) (manifests_are c) c.first_of.ensures.none
