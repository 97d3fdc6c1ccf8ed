use Rattle.std.proofs.Common.{◌≡◌, ◌+◌, ◌∷◌, [], ◌++◌, take, refl}
use Rattle.std.proofs.lemmas.List.{take_more}
use Rattle.oci_model.proofs.Lists.{copies_more}
use Rattle.std.proofs.lemmas.Result.{IfOk-from_err}
use Rattle.oci_base.specs.declared.error.OciSpecError.TheVariants.{Memory}
use Rattle.oci_model.proofs.Refusals.{left_with}
use Rattle.oci_model.proofs.list.VecOciMember.copy.Goals as goal

pub loop-item-preserved : goal.loop-item-preserved
loop-item-preserved g c =
    let xs = c.deref-item-items.result.now in
    let done = take c.loop-item.item-index xs in
    let x = c.item-item.result in
    let y = c.in_ok-copy.field-0 in
    let more : take (c.loop-item.item-index + 1) xs ≡ done ++ x ∷ [] = rw (take_more xs c.loop-item.item-index x c.loop-item-test.true, ← c.item-item.is) refl in
    let pushed : c.push.new.self.items ≡ c.loop-item.copies.items ++ y ∷ [] = c.in_ok-push.ensures.items in
    rw (pushed, more) (copies_more g.T.OciMember.plain done c.loop-item.copies.items x y c.loop-item.invariant c.in_ok-copy.ensures.ok)

pub returns-in_err-copies-clause-ok : goal.returns-in_err-copies-clause-ok
returns-in_err-copies-clause-ok g c = IfOk-from_err _ _ c.from_residual.ensures.0

pub returns-in_err-copies-clause-err : goal.returns-in_err-copies-clause-err
returns-in_err-copies-clause-err g c = left_with (λ e. e ≡ Memory) _ Memory c.from_residual.ensures.1 refl

pub returns-in_err-copy-clause-ok : goal.returns-in_err-copy-clause-ok
returns-in_err-copy-clause-ok g c = IfOk-from_err _ _ c.from_residual-in_err-copy.ensures.0

pub returns-in_err-copy-clause-err : goal.returns-in_err-copy-clause-err
returns-in_err-copy-clause-err g c = left_with (λ e. e ≡ Memory) _ _ c.from_residual-in_err-copy.ensures.1 c.in_err-copy.ensures.err

pub returns-in_err-push-clause-ok : goal.returns-in_err-push-clause-ok
returns-in_err-push-clause-ok g c = IfOk-from_err _ _ c.from_residual-in_err-push.ensures.0

pub returns-in_err-push-clause-err : goal.returns-in_err-push-clause-err
returns-in_err-push-clause-err g c = left_with (λ e. e ≡ Memory) _ Memory c.from_residual-in_err-push.ensures.1 refl
