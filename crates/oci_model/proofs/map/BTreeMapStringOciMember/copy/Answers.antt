use Rattle.std.proofs.Common.{◌≡◌, [], ◌∷◌, ◌++◌, String, Global, string_bytes, string_cmp, sym, ap, ◌∙◌, subst, append_assoc, refl}
use Rattle.std.specs.List.Sorted.{IsStrictlySortedBy}
use Rattle.std.specs.Map.{keys_of}
use Rattle.oci_model.specs.Plain as plain
use Rattle.oci_model.proofs.Maps.{entries_of, copies_last, whole}
use Rattle.std.proofs.lemmas.Result.{IfOk-from_err}
use Rattle.oci_base.specs.declared.error.OciSpecError.TheVariants.{Memory}
use Rattle.oci_model.proofs.Refusals.{left_with}
use Rattle.oci_model.proofs.map.BTreeMapStringOciMember.copy.Goals as goal

pub loop-name-preserved : goal.loop-name-preserved
loop-name-preserved g c =
    let l = c.loop-name in
    let i = l.invariant in
    let done = i.0 in
    let f = g.T.OciMember.plain in
    let e : String Global × g.row.T.Denot = (c.in-Some.name.now, c.in-Some.member.now) in
    let left = c.next.new.self in
    let all : c.args.self.now.entries ≡ done ++ e ∷ left = i.1 ∙ ap (λ es. done ++ es) c.in-Some.ensures.steps in
    let sorted = subst (λ es. IsStrictlySortedBy string_cmp (keys_of es)) all c.iter-name-items.ensures.ordered in
    let named : string_bytes c.in_ok-key.key ≡ string_bytes e.0 = c.in_ok-key.ensures.ok ∙ c.as_str.ensures.value in (
      done ++ e ∷ [],
      all ∙ sym (append_assoc done (e ∷ []) left),
      ap (entries_of f) c.in_ok-insert.ensures.entries ∙ copies_last f done e left l.copies.entries c.in_ok-key.key c.in_ok-copy.field-0 sorted named c.in_ok-copy.ensures.ok i.2,
    )

pub returns-clause-ok : goal.returns-clause-ok
returns-clause-ok g c =
    let i = c.loop-name.invariant in
    let f = g.T.OciMember.plain in
    ap plain.map (i.2 ∙ ap (entries_of f) (sym (whole i.0 i.1 c.in-None.ensures.steps.0)))

pub returns-in_err-key-clause-ok : goal.returns-in_err-key-clause-ok
returns-in_err-key-clause-ok g c = IfOk-from_err _ _ c.from_residual.ensures.0

pub returns-in_err-key-clause-err : goal.returns-in_err-key-clause-err
returns-in_err-key-clause-err g c = left_with (λ e. e ≡ Memory) _ Memory c.from_residual.ensures.1 refl

pub returns-in_err-copy-clause-ok : goal.returns-in_err-copy-clause-ok
returns-in_err-copy-clause-ok g c = IfOk-from_err _ _ c.from_residual-in_err-copy.ensures.0

pub returns-in_err-copy-clause-err : goal.returns-in_err-copy-clause-err
returns-in_err-copy-clause-err g c = left_with (λ e. e ≡ Memory) _ _ c.from_residual-in_err-copy.ensures.1 c.in_err-copy.ensures.err

pub returns-in_err-insert-clause-ok : goal.returns-in_err-insert-clause-ok
returns-in_err-insert-clause-ok g c = IfOk-from_err _ _ c.from_residual-in_err-insert.ensures.0

pub returns-in_err-insert-clause-err : goal.returns-in_err-insert-clause-err
returns-in_err-insert-clause-err g c = left_with (λ e. e ≡ Memory) _ Memory c.from_residual-in_err-insert.ensures.1 refl
