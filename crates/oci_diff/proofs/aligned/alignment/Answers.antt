use Rattle.std.proofs.Common.{◌≡◌, arith, length, rules}
use Rattle.std.proofs.lemmas.List.Elements.{All-push}
use Rattle.oci_diff.proofs.Aligning.{lead_on, all_led}
use Rattle.oci_diff.specs.Aligned.{IsWithin}
use Rattle.serde_json.specs.View.{items_view}
use Rattle.oci_diff.proofs.Bests.{each_of, longest_of, value_on}
use Rattle.oci_diff.proofs.aligned.alignment.Goals as goal

pub loop-i-preserved : goal.loop-i-preserved
loop-i-preserved c =
    let first = c.after.ensures.first in
    let second = c.after.ensures.second in
    rw (first, second, c.in_ok-push.ensures.items)
    (record {
      first = c.next_step-step.ensures.first;
      second = c.next_step-step.ensures.second;
      lead = lead_on _ _ 0 0 c.loop-i.steps.items c.loop-i.i c.loop-i.j c.next_step-step.result c.loop-i.invariant.lead c.next_step-step.ensures.step;
      reached = λ few fewer.
          let before = c.loop-i.invariant.reached few fewer in
          let step = c.next_step-step.ensures.best (c.in_ok-rows.ensures few fewer) in
          let counts = value_on (items_view c.args.items.now.items) (items_view c.args.others.now.items) (length c.args.items.now.items) (length c.args.others.now.items) 0 0 c.loop-i.steps.items c.loop-i.i c.loop-i.j c.next_step-step.result c.loop-i.invariant.lead in
          omega (arith, before, step, counts);
      within = All-push (IsWithin (length c.args.items.now.items) (length c.args.others.now.items)) c.loop-i.steps.items c.next_step-step.result c.loop-i.invariant.within c.next_step-step.ensures.within;
    })

pub returns-clause-aligned : goal.returns-clause-aligned
returns-clause-aligned c =
    let first : c.loop-i.i ≡ length c.args.items.now.items = search rules in
    let second : c.loop-i.j ≡ length c.args.others.now.items = search rules in
    all_led c.args.items.now.items c.args.others.now.items c.loop-i.steps.items _ _ first second c.loop-i.invariant.lead

pub returns-clause-longest : goal.returns-clause-longest
returns-clause-longest c few fewer others aligned =
    let first : c.loop-i.i ≡ length c.args.items.now.items = search rules in
    let second : c.loop-i.j ≡ length c.args.others.now.items = search rules in
    longest_of c.args.items.now.items c.args.others.now.items c.loop-i.steps.items others _ _ few first second c.loop-i.invariant.lead aligned (c.loop-i.invariant.reached few fewer)

pub returns-clause-each : goal.returns-clause-each
returns-clause-each c =
    let first : c.loop-i.i ≡ length c.args.items.now.items = search rules in
    let second : c.loop-i.j ≡ length c.args.others.now.items = search rules in
    each_of c.args.items.now.items c.args.others.now.items c.loop-i.steps.items (all_led c.args.items.now.items c.args.others.now.items c.loop-i.steps.items _ _ first second c.loop-i.invariant.lead)
    (λ few fewer others aligned. longest_of c.args.items.now.items c.args.others.now.items c.loop-i.steps.items others _ _ few first second c.loop-i.invariant.lead aligned (c.loop-i.invariant.reached few fewer))
