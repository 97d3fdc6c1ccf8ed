use Rattle.std.proofs.Common.{◌≡◌, [], ◌∷◌, ◌++◌, String, Global, string_bytes, string_cmp, refl, sym, ap, ◌∙◌, subst, append_assoc}
use Rattle.std.specs.List.Sorted.{IsStrictlySortedBy}
use Rattle.std.specs.Map.{keys_of}
use Rattle.serde_json.specs.View.{members_view}
use Rattle.serde_json.proofs.Views.{members_view-insert_entry}
use Rattle.oci_model.specs.Fits.{Fits, EachEntry}
use Rattle.oci_model.specs.Value.{value}
use Rattle.oci_model.specs.Writable.{Writable}
use Rattle.oci_model.proofs.Lists.{exits}
use Rattle.oci_model.proofs.Maps.{entries_of, all_entries_more, some_entry_lacks, put_last, whole}
use Rattle.std.proofs.lemmas.Result.{IfOk-from_err}
use Rattle.oci_base.specs.declared.error.OciSpecError.TheVariants.{Memory}
use Rattle.oci_base.specs.Refused.{IsMemoryOrSchema}
use Rattle.oci_model.proofs.Refusals.{left_with}
use Rattle.oci_model.proofs.map.BTreeMapStringOciMember.write.Goals as goal

pub returns-in_err-write-clause-err : goal.returns-in_err-write-clause-err
returns-in_err-write-clause-err g c =
    exits _ _ _ c.from_residual-in_err-write.ensures.1 (λ h h'.
    let i = c.loop-name.invariant in
    let f = g.T.OciMember.plain in
    let P = Writable g.T.OciMember.shape in
    let e : String Global × g.row.T.Denot = (c.in-Some.name.now, c.in-Some.member.now) in
    let all = i.1 ∙ ap (λ es. i.0 ++ es) c.in-Some.ensures.steps in
    some_entry_lacks P f i.0 e c.next.new.self (c.in_err-write.ensures.err h) (subst (λ es. EachEntry P (entries_of f es)) all h'))

pub loop-name-preserved : goal.loop-name-preserved
loop-name-preserved g c =
    let l = c.loop-name in
    let i = l.invariant in
    let done = i.0 in
    let s = g.T.OciMember.shape in
    let f = g.T.OciMember.plain in
    let e : String Global × g.row.T.Denot = (c.in-Some.name.now, c.in-Some.member.now) in
    let left = c.next.new.self in
    let k = c.in_ok-key.key in
    let w = c.in_ok-write.field-0 in
    let told = c.in_ok-write.ensures in
    let all : c.args.self.now.entries ≡ done ++ e ∷ left = i.1 ∙ ap (λ es. done ++ es) c.in-Some.ensures.steps in
    let last = put_last (value s) f done e left (subst (λ es. IsStrictlySortedBy string_cmp (keys_of es)) all c.iter-name-items.ensures.ordered) in
    let named : string_bytes k ≡ string_bytes e.0 = c.in_ok-key.ensures.ok ∙ c.as_str.ensures.value in (
      done ++ e ∷ [],
      all ∙ sym (append_assoc done (e ∷ []) left),
      ap members_view c.in_ok-insert.ensures.entries ∙ members_view-insert_entry l.written.entries k w ∙ rw (named, told.ok, i.2) last,
      all_entries_more (Fits s) f done e i.3 told.fits,
      all_entries_more (Writable s) f done e i.4 told.writable,
    )

pub returns-clause-fits : goal.returns-clause-fits
returns-clause-fits g c =
    let i = c.loop-name.invariant in
    let f = g.T.OciMember.plain in
    (entries_of f c.args.self.now.entries, refl, subst (λ es. EachEntry (Fits g.T.OciMember.shape) (entries_of f es)) (sym (whole i.0 i.1 c.in-None.ensures.steps.0)) i.3)

pub returns-clause-writable : goal.returns-clause-writable
returns-clause-writable g c =
    let i = c.loop-name.invariant in
    subst (λ es. EachEntry (Writable g.T.OciMember.shape) (entries_of g.T.OciMember.plain es)) (sym (whole i.0 i.1 c.in-None.ensures.steps.0)) i.4

pub returns-in_err-key-clause-ok : goal.returns-in_err-key-clause-ok
returns-in_err-key-clause-ok g c = IfOk-from_err _ _ c.from_residual.ensures.0

pub returns-in_err-key-clause-fits : goal.returns-in_err-key-clause-fits
returns-in_err-key-clause-fits g c = IfOk-from_err _ _ c.from_residual.ensures.0

pub returns-in_err-key-clause-writable : goal.returns-in_err-key-clause-writable
returns-in_err-key-clause-writable g c = IfOk-from_err _ _ c.from_residual.ensures.0

pub returns-in_err-key-clause-err : goal.returns-in_err-key-clause-err
returns-in_err-key-clause-err g c = exits _ Memory _ c.from_residual.ensures.1 (λ h. absurd h)

pub returns-in_err-key-clause-kind : goal.returns-in_err-key-clause-kind
returns-in_err-key-clause-kind g c = left_with IsMemoryOrSchema _ Memory c.from_residual.ensures.1 tt

pub returns-in_err-write-clause-ok : goal.returns-in_err-write-clause-ok
returns-in_err-write-clause-ok g c = IfOk-from_err _ _ c.from_residual-in_err-write.ensures.0

pub returns-in_err-write-clause-fits : goal.returns-in_err-write-clause-fits
returns-in_err-write-clause-fits g c = IfOk-from_err _ _ c.from_residual-in_err-write.ensures.0

pub returns-in_err-write-clause-writable : goal.returns-in_err-write-clause-writable
returns-in_err-write-clause-writable g c = IfOk-from_err _ _ c.from_residual-in_err-write.ensures.0

pub returns-in_err-write-clause-kind : goal.returns-in_err-write-clause-kind
returns-in_err-write-clause-kind g c = left_with IsMemoryOrSchema _ _ c.from_residual-in_err-write.ensures.1 c.in_err-write.ensures.kind

pub returns-in_err-insert-clause-ok : goal.returns-in_err-insert-clause-ok
returns-in_err-insert-clause-ok g c = IfOk-from_err _ _ c.from_residual-in_err-insert.ensures.0

pub returns-in_err-insert-clause-fits : goal.returns-in_err-insert-clause-fits
returns-in_err-insert-clause-fits g c = IfOk-from_err _ _ c.from_residual-in_err-insert.ensures.0

pub returns-in_err-insert-clause-writable : goal.returns-in_err-insert-clause-writable
returns-in_err-insert-clause-writable g c = IfOk-from_err _ _ c.from_residual-in_err-insert.ensures.0

pub returns-in_err-insert-clause-err : goal.returns-in_err-insert-clause-err
returns-in_err-insert-clause-err g c = exits _ Memory _ c.from_residual-in_err-insert.ensures.1 (λ h. absurd h)

pub returns-in_err-insert-clause-kind : goal.returns-in_err-insert-clause-kind
returns-in_err-insert-clause-kind g c = left_with IsMemoryOrSchema _ Memory c.from_residual-in_err-insert.ensures.1 tt
