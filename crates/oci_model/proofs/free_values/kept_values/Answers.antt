use Rattle.std.proofs.Common.{◌≡◌, [], ◌∷◌, ◌++◌, string_bytes, string_cmp, sym, ap, ◌∙◌, subst, append_assoc}
use Rattle.std.specs.List.Sorted.{IsStrictlySortedBy}
use Rattle.std.specs.Map.{keys_of}
use Rattle.serde_json.specs.View.{view, members_view}
use Rattle.serde_json.proofs.Views.{Entry, put_last}
use Rattle.oci_model.specs.FreeValues.{values_view}
use Rattle.oci_model.specs.Means.{free_values}
use Rattle.oci_model.proofs.FreeMaps.{values_view-insert_entry, free_values-put}
use Rattle.oci_model.proofs.free_values.kept_values.Goals as goal

pub loop-name-preserved : goal.loop-name-preserved
loop-name-preserved c =
    let l = c.loop-name in
    let done = l.invariant.0 in
    let e : Entry = (c.in-Some.name, c.in-Some.value) in
    let left = c.next.new.self in
    let given = c.into_iter-name-iterator.ensures.into_iter_gives in
    let all : c.into_iter-name-iterator.result ≡ done ++ e ∷ left = l.invariant.1 ∙ ap (λ es. done ++ es) c.in-Some.ensures.steps in
    let sorted = subst (λ es. IsStrictlySortedBy string_cmp (keys_of es)) (sym given.0 ∙ all) given.5 in
    let last = put_last done e left sorted in (
      done ++ e ∷ [],
      all ∙ sym (append_assoc done (e ∷ []) left),
      ap values_view c.in_ok-insert.ensures.entries ∙ values_view-insert_entry l.entries.entries e.0 c.kept.result
          ∙ rw (c.kept.ensures, l.invariant.2) (free_values-put (string_bytes e.0) (view e.1) (members_view done) ∙ ap free_values last),
    )
