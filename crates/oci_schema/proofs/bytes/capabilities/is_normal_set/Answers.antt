use Rattle.std.proofs.Common.{[], Some, ap, ◌∙◌, subst, drop_of_length-le}
use Rattle.serde_json.specs.Data.{string}
use Rattle.oci_text.specs.Capability.{all_capability}
use Rattle.oci_text.specs.declared.capability.Capability.TheVariants.{AuditControl}
use Rattle.oci_schema.proofs.NormalSets.{SetSoFar, set_begins, with_at, without_at, set_ends}
use Rattle.oci_schema.proofs.bytes.capabilities.is_normal_set.Goals as goal
use Rattle.oci_schema.proofs.bytes.capabilities.is_normal_set.Goals.{then-is_string, else-is_string}

pub loop-capability-init : goal.loop-capability-init
loop-capability-init c = λ d b. set_begins d _ c.next_item-next.new.items c.next_item-next.result (c.in-Some.ensures d b) c.next_item-next.ensures.value

pub loop-capability-preserved : goal.loop-capability-preserved
loop-capability-preserved c = λ d b.
    let l = c.loop-capability in
    let h = l.invariant d b in
    elim c.if-is_string.branch [
      | then-is_string w ↦
          rw (w.rest-is, w.next-is)
          (with_at d l.capability-index AuditControl l.next _ l.rest _ c.loop-capability-test.true (λ o finds. c.is_string.ensures w.if-is_string.true o finds ∙ ap (λ t. Some (string t)) c.json_name.ensures)
          w.next_item-next-then-is_string.ensures.value h)
      | else-is_string w ↦ rw (w.rest-is, w.next-is) (without_at d l.capability-index AuditControl l.next l.rest c.loop-capability-test.true h)
    ]

pub returns-in-None : goal.returns-in-None
returns-in-None c = λ yes d b.
    let l = c.loop-capability in
    let done = subst (λ cs. SetSoFar d cs l.next l.rest) (drop_of_length-le all_capability c.loop-capability-test.false) (l.invariant d b) in
    set_ends d l.rest (subst (λ next. SetSoFar d [] next l.rest) c.in-None.is done)
