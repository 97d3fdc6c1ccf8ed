use Rattle.std.proofs.Common.{refl, below_more}
use Rattle.oci_select.specs.Chosen.{IsChosen}
use Rattle.oci_select.proofs.Places.{same_chosen, some_runs, passes, ends, finds}
use Rattle.oci_select.proofs.choice.first_of.Goals as goal

chosen : (c : goal.In-Some) → IsChosen c.args.manifests.now c.args.wanted.now c.in-Some.chosen
chosen c = finds c.args.manifests.now c.args.wanted.now c.args.platforms.now c.requires.platforms c.loop-names.names-index _ c.in-Some.chosen c.loop-names-test.true c.loop-names.invariant c.in-Some.ensures.some c.in-Some.ensures.first

pub returns-in-Some-clause-some : goal.returns-in-Some-clause-some
returns-in-Some-clause-some c = chosen c

pub returns-in-Some-clause-alone : goal.returns-in-Some-clause-alone
returns-in-Some-clause-alone c = λ j h. same_chosen c.args.manifests.now c.args.wanted.now c.in-Some.chosen j (chosen c) h

pub returns-in-Some-clause-none : goal.returns-in-Some-clause-none
returns-in-Some-clause-none c = (λ is. cc is, λ none. absurd (some_runs c.args.manifests.now c.args.wanted.now c.in-Some.chosen (chosen c) none))

pub loop-names-preserved : goal.loop-names-preserved
loop-names-preserved c = below_more _ _ c.loop-names.invariant
    (passes c.args.manifests.now c.args.wanted.now c.args.platforms.now c.requires.platforms c.loop-names.names-index _ c.loop-names-test.true (c.in_default.ensures.none refl))

pub returns-clause-none : goal.returns-clause-none
returns-clause-none c = (λ _. ends c.args.manifests.now c.args.wanted.now c.args.platforms.now c.requires.platforms c.loop-names.names-index c.loop-names-test.false c.loop-names.invariant, λ _. refl)
