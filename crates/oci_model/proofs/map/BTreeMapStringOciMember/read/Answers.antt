use Rattle.std.proofs.Common.{◌≡◌, [], ◌∷◌, ◌++◌, string_cmp, refl, sym, ap, ◌∙◌, subst, append_assoc}
use Rattle.std.specs.List.Sorted.{IsStrictlySortedBy}
use Rattle.std.specs.Map.{keys_of}
use Rattle.serde_json.specs.View.{members_view}
use Rattle.oci_model.specs.Means.{Means, EachEntryMeans}
use Rattle.oci_model.proofs.Lists.{exits}
use Rattle.oci_model.proofs.Maps.{Found, entries_of, not_object, entry_more, map_refused}
use Rattle.std.proofs.lemmas.Result.{IfOk-from_err}
use Rattle.oci_base.specs.declared.error.OciSpecError.TheVariants.{Memory}
use Rattle.oci_base.specs.Refused.{IsMemoryOrSchema}
use Rattle.oci_model.proofs.Refusals.{left_with}
use Rattle.oci_model.proofs.map.BTreeMapStringOciMember.read.Goals as goal

pub returns-in_err-member-in-Some-clause-err : goal.returns-in_err-member-in-Some-clause-err
returns-in_err-member-in-Some-clause-err g c =
    exits _ _ _ c.from_residual.ensures.1 (λ h.
    let i = c.loop-name.invariant in
    let e : Found = (c.in-Some-2.name, c.in-Some-2.member) in
    map_refused g.T.OciMember.shape _ c.in-Some.members.entries i.0 e c.next.new.self c.in-Some.ensures
    (sym c.into_iter-name-iterator.ensures.into_iter_gives.0 ∙ i.1 ∙ ap (λ es. i.0 ++ es) c.in-Some-2.ensures.steps) (c.in_err-member-in-Some.ensures.err h))

pub loop-name-preserved : goal.loop-name-preserved
loop-name-preserved g c =
    let i = c.loop-name.invariant in
    let done = i.0 in
    let e : Found = (c.in-Some-2.name, c.in-Some-2.member) in
    let left = c.next.new.self in
    let x = c.in_ok-member-in-Some.member in
    let given = c.into_iter-name-iterator.ensures.into_iter_gives in
    let all : c.into_iter-name-iterator.result ≡ done ++ e ∷ left = i.1 ∙ ap (λ es. done ++ es) c.in-Some-2.ensures.steps in
    let sorted = subst (λ es. IsStrictlySortedBy string_cmp (keys_of es)) (sym given.0 ∙ all) given.5 in
    let more = entry_more (Means g.T.OciMember.shape) g.T.OciMember.plain done e left c.loop-name.read.entries e.0 x sorted refl c.in_ok-member-in-Some.ensures.ok i.2 in (
      done ++ e ∷ [],
      all ∙ sym (append_assoc done (e ∷ []) left),
      subst (λ es. EachEntryMeans (Means g.T.OciMember.shape) (members_view (done ++ e ∷ [])) (entries_of g.T.OciMember.plain es)) (sym c.in_ok-insert-in-Some.ensures.entries) more,
    )

pub returns-in-None-clause-err : goal.returns-in-None-clause-err
returns-in-None-clause-err g c = λ h. not_object _ _ c.in-None.ensures

pub returns-in_err-member-in-Some-clause-ok : goal.returns-in_err-member-in-Some-clause-ok
returns-in_err-member-in-Some-clause-ok g c = IfOk-from_err _ _ c.from_residual.ensures.0

pub returns-in_err-member-in-Some-clause-kind : goal.returns-in_err-member-in-Some-clause-kind
returns-in_err-member-in-Some-clause-kind g c = left_with IsMemoryOrSchema _ _ c.from_residual.ensures.1 c.in_err-member-in-Some.ensures.kind

pub returns-in_err-insert-in-Some-clause-ok : goal.returns-in_err-insert-in-Some-clause-ok
returns-in_err-insert-in-Some-clause-ok g c = IfOk-from_err _ _ c.from_residual-in_err-insert-in-Some.ensures.0

pub returns-in_err-insert-in-Some-clause-err : goal.returns-in_err-insert-in-Some-clause-err
returns-in_err-insert-in-Some-clause-err g c = exits _ Memory _ c.from_residual-in_err-insert-in-Some.ensures.1 (λ h. absurd h)

pub returns-in_err-insert-in-Some-clause-kind : goal.returns-in_err-insert-in-Some-clause-kind
returns-in_err-insert-in-Some-clause-kind g c = left_with IsMemoryOrSchema _ Memory c.from_residual-in_err-insert-in-Some.ensures.1 tt
