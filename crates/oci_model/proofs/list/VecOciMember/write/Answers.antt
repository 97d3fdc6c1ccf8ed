use Rattle.std.proofs.Common.{◌≡◌, ◌<◌, ◌+◌, ◌∷◌, [], ◌++◌, length, get_or, take, map, subst, ap, ◌∙◌, refl, arith, take_all}
use Rattle.std.proofs.lemmas.List.{take_more}
use Rattle.serde_json.specs.Data.{array}
use Rattle.serde_json.proofs.Views.{view-Array}
use Rattle.oci_model.specs.Fits.{Fits}
use Rattle.oci_model.specs.Plain.{plains}
use Rattle.oci_model.specs.Value.{value, each_value}
use Rattle.oci_model.specs.Writable.{Writable}
use Rattle.oci_model.proofs.Lists.{exits, all_more, some_lacks, values_more}
use Rattle.std.proofs.lemmas.Result.{IfOk-from_err}
use Rattle.oci_base.specs.declared.error.OciSpecError.TheVariants.{Memory}
use Rattle.oci_base.specs.Refused.{IsMemoryOrSchema}
use Rattle.oci_model.proofs.Refusals.{left_with}
use Rattle.oci_model.proofs.list.VecOciMember.write.Goals as goal

pub returns-in_err-write-clause-err : goal.returns-in_err-write-clause-err
returns-in_err-write-clause-err g c =
    exits _ _ _ c.from_residual-in_err-write.ensures.1 (λ h all.
    let e = c.deref-item-items.ensures.value in
    some_lacks (Writable g.T.OciMember.shape) g.T.OciMember.plain c.args.self.now.items c.loop-item.item-index c.item-item.result
    (subst (λ xs. c.loop-item.item-index < length xs) e c.loop-item-test.true)
    (subst (λ xs. c.item-item.result ≡ get_or xs c.loop-item.item-index c.item-item.result) e c.item-item.is)
    (c.in_err-write.ensures.err h) all)

pub loop-item-preserved : goal.loop-item-preserved
loop-item-preserved g c =
    let xs = c.deref-item-items.result.now in
    let s = g.T.OciMember.shape in
    let f = g.T.OciMember.plain in
    let done = take c.loop-item.item-index xs in
    let x = c.item-item.result in
    let i = c.loop-item.invariant in
    let w = c.in_ok-write.field-0 in
    let told = c.in_ok-write.ensures in
    let more : take (c.loop-item.item-index + 1) xs ≡ done ++ x ∷ [] = rw (take_more xs c.loop-item.item-index x c.loop-item-test.true, ← c.item-item.is) refl in
    let pushed : c.push.new.self.items ≡ c.loop-item.written.items ++ w ∷ [] = c.in_ok-push.ensures.items in
    record {
      written = rw (pushed, more) (values_more (value s) f c.loop-item.written.items done w x i.written told.ok);
      fits = rw more (all_more (Fits s) f done x i.fits told.fits);
      writable = rw more (all_more (Writable s) f done x i.writable told.writable);
    }

pub returns-clause-ok : goal.returns-clause-ok
returns-clause-ok g c =
    let s = g.T.OciMember.shape in
    let f = g.T.OciMember.plain in
    let all : take c.loop-item.item-index c.deref-item-items.result.now ≡ c.args.self.now.items =
    take_all c.loop-item.item-index c.deref-item-items.result.now (omega arith) ∙ c.deref-item-items.ensures.value in
    view-Array c.loop-item.written ∙ ap array (c.loop-item.invariant.written ∙ ap (λ ys. each_value (value s) (plains (map f ys))) all)

pub returns-in_err-written-clause-ok : goal.returns-in_err-written-clause-ok
returns-in_err-written-clause-ok g c = IfOk-from_err _ _ c.from_residual.ensures.0

pub returns-in_err-written-clause-fits : goal.returns-in_err-written-clause-fits
returns-in_err-written-clause-fits g c = IfOk-from_err _ _ c.from_residual.ensures.0

pub returns-in_err-written-clause-writable : goal.returns-in_err-written-clause-writable
returns-in_err-written-clause-writable g c = IfOk-from_err _ _ c.from_residual.ensures.0

pub returns-in_err-written-clause-err : goal.returns-in_err-written-clause-err
returns-in_err-written-clause-err g c = exits _ Memory _ c.from_residual.ensures.1 (λ h. absurd h)

pub returns-in_err-written-clause-kind : goal.returns-in_err-written-clause-kind
returns-in_err-written-clause-kind g c = left_with IsMemoryOrSchema _ Memory c.from_residual.ensures.1 tt

pub returns-in_err-write-clause-ok : goal.returns-in_err-write-clause-ok
returns-in_err-write-clause-ok g c = IfOk-from_err _ _ c.from_residual-in_err-write.ensures.0

pub returns-in_err-write-clause-fits : goal.returns-in_err-write-clause-fits
returns-in_err-write-clause-fits g c = IfOk-from_err _ _ c.from_residual-in_err-write.ensures.0

pub returns-in_err-write-clause-writable : goal.returns-in_err-write-clause-writable
returns-in_err-write-clause-writable g c = IfOk-from_err _ _ c.from_residual-in_err-write.ensures.0

pub returns-in_err-write-clause-kind : goal.returns-in_err-write-clause-kind
returns-in_err-write-clause-kind g c = left_with IsMemoryOrSchema _ _ c.from_residual-in_err-write.ensures.1 c.in_err-write.ensures.kind

pub returns-in_err-push-clause-ok : goal.returns-in_err-push-clause-ok
returns-in_err-push-clause-ok g c = IfOk-from_err _ _ c.from_residual-in_err-push.ensures.0

pub returns-in_err-push-clause-fits : goal.returns-in_err-push-clause-fits
returns-in_err-push-clause-fits g c = IfOk-from_err _ _ c.from_residual-in_err-push.ensures.0

pub returns-in_err-push-clause-writable : goal.returns-in_err-push-clause-writable
returns-in_err-push-clause-writable g c = IfOk-from_err _ _ c.from_residual-in_err-push.ensures.0

pub returns-in_err-push-clause-err : goal.returns-in_err-push-clause-err
returns-in_err-push-clause-err g c = exits _ Memory _ c.from_residual-in_err-push.ensures.1 (λ h. absurd h)

pub returns-in_err-push-clause-kind : goal.returns-in_err-push-clause-kind
returns-in_err-push-clause-kind g c = left_with IsMemoryOrSchema _ Memory c.from_residual-in_err-push.ensures.1 tt
