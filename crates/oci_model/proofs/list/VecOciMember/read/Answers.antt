use Rattle.std.proofs.Common.{[], ◌∷◌, ◌++◌, map, sym, ap, ◌∙◌, subst, append_assoc}
use Rattle.std.specs.Vec.Iter.{into_iter_items}
use Rattle.serde_json.specs.View.{items_view}
use Rattle.oci_model.specs.Means.{Means, EachMeans}
use Rattle.oci_model.specs.Plain.{plains}
use Rattle.oci_model.proofs.Lists.{exits, not_array, each_more, items_refused}
use Rattle.std.proofs.lemmas.Result.{IfOk-from_err}
use Rattle.oci_base.specs.declared.error.OciSpecError.TheVariants.{Memory}
use Rattle.oci_base.specs.Refused.{IsMemoryOrSchema}
use Rattle.oci_model.proofs.Refusals.{left_with}
use Rattle.oci_model.proofs.list.VecOciMember.read.Goals as goal

pub returns-in_err-read-in-Some-clause-err : goal.returns-in_err-read-in-Some-clause-err
returns-in_err-read-in-Some-clause-err g c =
    exits _ _ _ c.from_residual-in_err-read-in-Some.ensures.1 (λ h.
    let i = c.loop-item.invariant in
    items_refused g.T.OciMember.shape _ c.in-Some.items.items i.0 c.in-Some-item.item (into_iter_items c.next.new.self) c.in-Some.ensures
    (sym c.into_iter-item-iterator.ensures.into_iter_gives.0 ∙ i.1 ∙ ap (λ vs. i.0 ++ vs) c.in-Some-item.ensures.steps.0) (c.in_err-read-in-Some.ensures.err h))

pub loop-item-preserved : goal.loop-item-preserved
loop-item-preserved g c =
    let i = c.loop-item.invariant in
    let v = c.in-Some-item.item in
    let x = c.in_ok-read-in-Some.field-0 in
    let more = each_more (Means g.T.OciMember.shape) g.T.OciMember.plain i.0 c.loop-item.listed.items v x i.2 c.in_ok-read-in-Some.ensures.ok in (
      i.0 ++ v ∷ [],
      i.1 ∙ ap (λ vs. i.0 ++ vs) c.in-Some-item.ensures.steps.0 ∙ sym (append_assoc i.0 (v ∷ []) (into_iter_items c.next.new.self)),
      subst (λ xs. EachMeans (Means g.T.OciMember.shape) (items_view (i.0 ++ v ∷ [])) (plains (map g.T.OciMember.plain xs))) (sym c.in_ok-push-in-Some.ensures.items) more,
    )

pub returns-in-None-clause-err : goal.returns-in-None-clause-err
returns-in-None-clause-err g c = λ h. not_array _ _ c.in-None.ensures

pub returns-in_err-listed-in-Some-clause-ok : goal.returns-in_err-listed-in-Some-clause-ok
returns-in_err-listed-in-Some-clause-ok g c = IfOk-from_err _ _ c.from_residual.ensures.0

pub returns-in_err-listed-in-Some-clause-err : goal.returns-in_err-listed-in-Some-clause-err
returns-in_err-listed-in-Some-clause-err g c = exits _ Memory _ c.from_residual.ensures.1 (λ h. absurd h)

pub returns-in_err-listed-in-Some-clause-kind : goal.returns-in_err-listed-in-Some-clause-kind
returns-in_err-listed-in-Some-clause-kind g c = left_with IsMemoryOrSchema _ Memory c.from_residual.ensures.1 tt

pub returns-in_err-read-in-Some-clause-ok : goal.returns-in_err-read-in-Some-clause-ok
returns-in_err-read-in-Some-clause-ok g c = IfOk-from_err _ _ c.from_residual-in_err-read-in-Some.ensures.0

pub returns-in_err-read-in-Some-clause-kind : goal.returns-in_err-read-in-Some-clause-kind
returns-in_err-read-in-Some-clause-kind g c = left_with IsMemoryOrSchema _ _ c.from_residual-in_err-read-in-Some.ensures.1 c.in_err-read-in-Some.ensures.kind

pub returns-in_err-push-in-Some-clause-ok : goal.returns-in_err-push-in-Some-clause-ok
returns-in_err-push-in-Some-clause-ok g c = IfOk-from_err _ _ c.from_residual-in_err-push-in-Some.ensures.0

pub returns-in_err-push-in-Some-clause-err : goal.returns-in_err-push-in-Some-clause-err
returns-in_err-push-in-Some-clause-err g c = exits _ Memory _ c.from_residual-in_err-push-in-Some.ensures.1 (λ h. absurd h)

pub returns-in_err-push-in-Some-clause-kind : goal.returns-in_err-push-in-Some-clause-kind
returns-in_err-push-in-Some-clause-kind g c = left_with IsMemoryOrSchema _ Memory c.from_residual-in_err-push-in-Some.ensures.1 tt
