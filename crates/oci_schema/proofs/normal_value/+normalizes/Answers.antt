use Rattle.std.proofs.Common.{◌≡◌, true, ◌∷◌, [], ◌++◌, ◌&&◌, length, option_map, string_cmp, sym, ap, ◌∙◌, subst, append_assoc, arith}
use Rattle.std.proofs.lemmas.List.{append-nil}
use Rattle.std.proofs.lemmas.Result.{IfOk-from_err}
use Rattle.std.specs.List.Sorted.{IsStrictlySortedBy}
use Rattle.std.specs.Map.{keys_of}
use Rattle.std.specs.Vec.Iter.{into_iter_items}
use Rattle.serde_json.specs.Data.{array, object}
use Rattle.serde_json.specs.View.{view, items_view, members_view}
use Rattle.serde_json.proofs.Views.{Entry, view-Array, view-Object}
use Rattle.oci_model.proofs.Lists.{exits}
use Rattle.oci_schema.specs.Allows.{each_allowed, each_member_allowed}
use Rattle.oci_schema.specs.Normalized.{accepts, normalized, each_normalized, each_member_normalized}
use Rattle.oci_schema.specs.Shapes.{presence_of, part_shape, schema_shape, members_in}
use Rattle.oci_schema.proofs.Accepted.{of_member}
use Rattle.oci_schema.proofs.Exits.{handed_on}
use Rattle.oci_schema.proofs.Given.{one_allowed, ends}
use Rattle.oci_schema.proofs.GivenParts.{given_written, given_refused, none_written, none_refused}
use Rattle.oci_schema.proofs.Parts.{none_left, items_more, items_all, members_more}
use Rattle.oci_model.specs.Sizes.{items_size, members_size}
use Rattle.oci_model.specs.Value.{value as json_of}
use Rattle.oci_schema.proofs.Moved.{moved_more, moved_refused, moved_all}
use Rattle.oci_schema.proofs.GivenSmaller.{given_smaller}
use Rattle.oci_schema.proofs.Steps.{well_left}
use Rattle.oci_schema.proofs.normal_value.+normalizes.Goals as goal

pub normal_member-normal_value-requires : goal.normal_member-normal_value-requires
normal_member-normal_value-requires g t c κs within = (
  omega (arith, given_smaller (presence_of c.args.presence.now) (option_map view c.args.found) (view c.in-Some.value) (ap (option_map view) (sym c.in-Some.is) ∙ c.given.ensures)),
  (within, of_member (presence_of c.args.presence.now) (schema_shape (g.T.Records.shape_at c.args.records.now) c.args.schema.now) c.requires),
)

pub normal_items-loop-item-preserved : goal.normal_items-loop-item-preserved
normal_items-loop-item-preserved g t c =
    let i = c.loop-item.invariant in
    let s = part_shape (g.T.Records.shape_at c.args.records.now) c.args.part.now in
    let more = items_more (accepts s) (normalized s) (items_view (into_iter_items c.into_iter-item-iterator.result)) (into_iter_items c.loop-item.item-iterator) (into_iter_items c.next.new.self)
    c.loop-item.made.items _ c.in-Some.item c.in_ok-normal_value.field-0 c.in-Some.ensures.steps.0 c.in_ok-push.ensures.items c.in_ok-normal_value.ensures.ok i.accepted i.made in
    let cut = ap (λ vs. items_size (items_view vs)) c.in-Some.ensures.steps.0 in
    record { accepted = more.0; made = more.1; smaller = omega (arith, cut, i.smaller) }

pub normal_items-returns-clause-ok : goal.normal_items-returns-clause-ok
normal_items-returns-clause-ok g t c =
    let i = c.loop-item.invariant in
    let s = part_shape (g.T.Records.shape_at c.args.records.now) c.args.part.now in
    let is : into_iter_items c.into_iter-item-iterator.result ≡ c.args.items.items = c.into_iter-item-iterator.ensures.into_iter_gives.0 in
    let none = none_left (into_iter_items c.loop-item.item-iterator) (sym c.loop-item.item-iterator.rest.ok.0 ∙ c.in-None.ensures.steps.0) in
    let all = items_all (accepts s) (normalized s) (items_view (into_iter_items c.into_iter-item-iterator.result)) (into_iter_items c.loop-item.item-iterator) c.loop-item.made.items none i.accepted i.made in
    let told = subst (λ vs. (each_allowed (accepts s) (items_view vs) ≡ true) × (items_view c.loop-item.made.items ≡ each_normalized (normalized s) (items_view vs))) is all in
    (told.0, view-Array c.loop-item.made ∙ ap array told.1)

pub normal_map-returns-in_err-member-clause-err : goal.normal_map-returns-in_err-member-clause-err
normal_map-returns-in_err-member-clause-err g t c =
    let i = c.loop-name.invariant in
    let s = part_shape (g.T.Records.shape_at c.args.records.now) c.args.part.now in
    let left = c.next.new.self in
    let e : Entry = (c.in-Some.name, c.in-Some.member) in
    let steps : c.loop-name.name-iterator ≡ e ∷ left = c.in-Some.ensures.steps in
    exits _ _ _ c.from_residual.ensures.1 (λ h. ap (λ es. each_member_allowed (accepts s) (members_view es)) (sym c.into_iter-name-iterator.ensures.into_iter_gives.0)
    ∙ i.2 ∙ ap (λ es. each_member_allowed (accepts s) (members_view es)) steps ∙ ap (λ b. b && each_member_allowed (accepts s) (members_view left)) (c.in_err-member.ensures.err h))

pub normal_map-loop-name-preserved : goal.normal_map-loop-name-preserved
normal_map-loop-name-preserved g t c =
    let i = c.loop-name.invariant in
    let s = part_shape (g.T.Records.shape_at c.args.records.now) c.args.part.now in
    let done = i.0 in
    let e : Entry = (c.in-Some.name, c.in-Some.member) in
    let left = c.next.new.self in
    let given = c.into_iter-name-iterator.ensures.into_iter_gives in
    let steps : c.loop-name.name-iterator ≡ e ∷ left = c.in-Some.ensures.steps in
    let all : c.into_iter-name-iterator.result ≡ done ++ e ∷ left = i.1 ∙ ap (λ es. done ++ es) steps in
    let sorted = subst (λ es. IsStrictlySortedBy string_cmp (keys_of es)) (sym given.0 ∙ all) given.5 in
    let cut = ap (λ es. members_size (members_view es)) steps in
    let ok = c.in_ok-member.ensures.ok in (
      done ++ e ∷ [],
      all ∙ sym (append_assoc done (e ∷ []) left),
      i.2 ∙ ap (λ es. each_member_allowed (accepts s) (members_view es)) steps ∙ ap (λ b. b && each_member_allowed (accepts s) (members_view left)) ok.0,
      members_more (normalized s) done left c.loop-name.made.entries c.insert.new.self.entries e c.in_ok-member.member sorted ok.1 c.in_ok-insert.ensures.entries i.3,
      omega (arith, cut, i.4),
    )

pub move_member-returns-in-Ok-clause-accepts : goal.move_member-returns-in-Ok-clause-accepts
move_member-returns-in-Ok-clause-accepts g t c = ends _ _ (one_allowed _ _ _ _ _ _ c.in_ok-value.ensures.one c.in_ok-value.ensures.ok c.in-Ok.ensures.ok.0)

pub move_member-returns-in-Err-clause-err : goal.move_member-returns-in-Err-clause-err
move_member-returns-in-Err-clause-err g t c = λ h.
    one_allowed _ _ _ _ _ _ c.in_ok-value.ensures.one c.in_ok-value.ensures.ok (c.in-Err.ensures.err (c.placed.ensures.schema h))

pub normal_members-loop-member-preserved : goal.normal_members-loop-member-preserved
normal_members-loop-member-preserved g t c = record {
  moved =
      moved_more (g.T.Records.shape_at c.args.records.now) _ _ c.args.members.now c.loop-member.member-index _ _ _ c.loop-member-test.true c.loop-member.invariant.moved _ _
      c.in_ok-move_member.ensures.accepts c.in_ok-move_member.ensures.ok c.in_ok-move_member.ensures.others;
  smaller = omega (arith, c.in_ok-move_member.ensures.smaller, c.loop-member.invariant.smaller);
}

pub normal_members-returns-clause-ok : goal.normal_members-returns-clause-ok
normal_members-returns-clause-ok g t c =
    let f = g.T.Records.shape_at c.args.records.now in
    let all = moved_all f (members_in f c.args.members.now) (object (members_view c.args.found.entries)) c.args.members.now c.loop-member.member-index _ _ c.loop-member-test.false c.loop-member.invariant.moved in
    (all.0, view-Object c.loop-member.made ∙ ap object all.1)

pub normal_items-returns-in_err-normal_value-clause-err : goal.normal_items-returns-in_err-normal_value-clause-err
normal_items-returns-in_err-normal_value-clause-err g t c =
    let s = part_shape (g.T.Records.shape_at c.args.records.now) c.args.part.now in
    let left = items_view (into_iter_items c.next.new.self) in
    let is : into_iter_items c.into_iter-item-iterator.result ≡ c.args.items.items = c.into_iter-item-iterator.ensures.into_iter_gives.0 in
    exits _ _ _ c.from_residual-in_err-normal_value.ensures.1 (λ h. ap (λ vs. each_allowed (accepts s) (items_view vs)) (sym is) ∙ c.loop-item.invariant.accepted
    ∙ ap (λ vs. each_allowed (accepts s) (items_view vs)) c.in-Some.ensures.steps.0 ∙ ap (λ b. b && each_allowed (accepts s) left) (c.in_err-normal_value.ensures.err h))

pub normal_map-returns-clause-ok : goal.normal_map-returns-clause-ok
normal_map-returns-clause-ok g t c =
    let i = c.loop-name.invariant in
    let s = part_shape (g.T.Records.shape_at c.args.records.now) c.args.part.now in
    let given = sym c.into_iter-name-iterator.ensures.into_iter_gives.0 in
    let none : c.loop-name.name-iterator ≡ [] = c.in-None.ensures.steps.0 in
    let all : c.args.members.entries ≡ i.0 = given ∙ i.1 ∙ ap (λ es. i.0 ++ es) none ∙ append-nil i.0 in (
      ap (λ es. each_member_allowed (accepts s) (members_view es)) given ∙ i.2 ∙ ap (λ es. each_member_allowed (accepts s) (members_view es)) none,
      view-Object c.loop-name.made ∙ ap object (i.3 ∙ ap (λ es. each_member_normalized (normalized s) (members_view es)) (sym all)),
    )

pub normal_members-move_member-requires : goal.normal_members-move_member-requires
normal_members-move_member-requires g t c κs within = (
  omega (arith, c.loop-member.invariant.smaller),
  (within, (well_left (g.T.Records.shape_at c.args.records.now) c.args.members.now c.loop-member.member-index _ c.loop-member-test.true c.loop-member.invariant.moved.well).0),
)

pub normal_members-returns-in_err-move_member-clause-err : goal.normal_members-returns-in_err-move_member-clause-err
normal_members-returns-in_err-move_member-clause-err g t c =
    exits _ _ _ c.from_residual.ensures.1 (λ h. moved_refused (g.T.Records.shape_at c.args.records.now) _ _ c.args.members.now c.loop-member.member-index _ _ _
    c.loop-member-test.true c.loop-member.invariant.moved (c.in_err-move_member.ensures.err h))

-- ---- at the exits

pub normal_items-returns-in_err-made-clause-ok : goal.normal_items-returns-in_err-made-clause-ok
normal_items-returns-in_err-made-clause-ok g t c = IfOk-from_err _ _ c.from_residual.ensures.0

pub normal_items-returns-in_err-made-clause-kind : goal.normal_items-returns-in_err-made-clause-kind
normal_items-returns-in_err-made-clause-kind g t c = handed_on _ _ _ c.from_residual.ensures.1 tt

pub normal_items-returns-in_err-made-clause-err : goal.normal_items-returns-in_err-made-clause-err
normal_items-returns-in_err-made-clause-err g t c = exits _ _ _ c.from_residual.ensures.1 (λ h. absurd h)

pub normal_items-returns-in_err-normal_value-clause-ok : goal.normal_items-returns-in_err-normal_value-clause-ok
normal_items-returns-in_err-normal_value-clause-ok g t c = IfOk-from_err _ _ c.from_residual-in_err-normal_value.ensures.0

pub normal_items-returns-in_err-normal_value-clause-kind : goal.normal_items-returns-in_err-normal_value-clause-kind
normal_items-returns-in_err-normal_value-clause-kind g t c = handed_on _ _ _ c.from_residual-in_err-normal_value.ensures.1 c.in_err-normal_value.ensures.kind

pub normal_items-returns-in_err-push-clause-ok : goal.normal_items-returns-in_err-push-clause-ok
normal_items-returns-in_err-push-clause-ok g t c = IfOk-from_err _ _ c.from_residual-in_err-push.ensures.0

pub normal_items-returns-in_err-push-clause-kind : goal.normal_items-returns-in_err-push-clause-kind
normal_items-returns-in_err-push-clause-kind g t c = handed_on _ _ _ c.from_residual-in_err-push.ensures.1 tt

pub normal_items-returns-in_err-push-clause-err : goal.normal_items-returns-in_err-push-clause-err
normal_items-returns-in_err-push-clause-err g t c = exits _ _ _ c.from_residual-in_err-push.ensures.1 (λ h. absurd h)

pub normal_map-returns-in_err-member-clause-ok : goal.normal_map-returns-in_err-member-clause-ok
normal_map-returns-in_err-member-clause-ok g t c = IfOk-from_err _ _ c.from_residual.ensures.0

pub normal_map-returns-in_err-member-clause-kind : goal.normal_map-returns-in_err-member-clause-kind
normal_map-returns-in_err-member-clause-kind g t c = handed_on _ _ _ c.from_residual.ensures.1 c.in_err-member.ensures.kind

pub normal_map-returns-in_err-insert-clause-ok : goal.normal_map-returns-in_err-insert-clause-ok
normal_map-returns-in_err-insert-clause-ok g t c = IfOk-from_err _ _ c.from_residual-in_err-insert.ensures.0

pub normal_map-returns-in_err-insert-clause-kind : goal.normal_map-returns-in_err-insert-clause-kind
normal_map-returns-in_err-insert-clause-kind g t c = handed_on _ _ _ c.from_residual-in_err-insert.ensures.1 tt

pub normal_map-returns-in_err-insert-clause-err : goal.normal_map-returns-in_err-insert-clause-err
normal_map-returns-in_err-insert-clause-err g t c = exits _ _ _ c.from_residual-in_err-insert.ensures.1 (λ h. absurd h)

pub normal_members-returns-in_err-move_member-clause-ok : goal.normal_members-returns-in_err-move_member-clause-ok
normal_members-returns-in_err-move_member-clause-ok g t c = IfOk-from_err _ _ c.from_residual.ensures.0

pub normal_members-returns-in_err-move_member-clause-kind : goal.normal_members-returns-in_err-move_member-clause-kind
normal_members-returns-in_err-move_member-clause-kind g t c = handed_on _ _ _ c.from_residual.ensures.1 c.in_err-move_member.ensures.kind

pub move_member-returns-in_err-value-clause-ok : goal.move_member-returns-in_err-value-clause-ok
move_member-returns-in_err-value-clause-ok g t c = IfOk-from_err _ _ c.from_residual.ensures.0

pub move_member-returns-in_err-value-clause-accepts : goal.move_member-returns-in_err-value-clause-accepts
move_member-returns-in_err-value-clause-accepts g t c = IfOk-from_err _ _ c.from_residual.ensures.0

pub move_member-returns-in_err-value-clause-kind : goal.move_member-returns-in_err-value-clause-kind
move_member-returns-in_err-value-clause-kind g t c = handed_on _ _ _ c.from_residual.ensures.1 c.in_err-value.ensures.kind

-- ---- the member that is given

pub normal_member-returns-in-Ok-clause-ok : goal.normal_member-returns-in-Ok-clause-ok
normal_member-returns-in-Ok-clause-ok g t c =
    let s = schema_shape (g.T.Records.shape_at c.args.records.now) c.args.schema.now in
    given_written (presence_of c.args.presence.now) (accepts s) (option_map view c.args.found) (view c.in-Some.value) (ap (option_map view) (sym c.in-Some.is) ∙ c.given.ensures)
    (json_of s) (normalized s) _ _ c.in-Ok.ensures.ok.0 c.in-Ok.ensures.ok.1 c.written.ensures

pub normal_member-returns-in-Err-clause-err : goal.normal_member-returns-in-Err-clause-err
normal_member-returns-in-Err-clause-err g t c =
    let s = schema_shape (g.T.Records.shape_at c.args.records.now) c.args.schema.now in
    λ h. given_refused (presence_of c.args.presence.now) (accepts s) (option_map view c.args.found) (view c.in-Some.value) (ap (option_map view) (sym c.in-Some.is) ∙ c.given.ensures)
    (c.in-Err.ensures.err h)

pub normal_member-returns-in-None-clause-ok : goal.normal_member-returns-in-None-clause-ok
normal_member-returns-in-None-clause-ok g t c =
    let s = schema_shape (g.T.Records.shape_at c.args.records.now) c.args.schema.now in
    none_written (presence_of c.args.presence.now) (accepts s) (option_map view c.args.found) (ap (option_map view) (sym c.in-None.is) ∙ c.given.ensures)
    (json_of s) (normalized s) _ c.normal_absent.ensures.ok

pub normal_member-returns-in-None-clause-err : goal.normal_member-returns-in-None-clause-err
normal_member-returns-in-None-clause-err g t c =
    let s = schema_shape (g.T.Records.shape_at c.args.records.now) c.args.schema.now in
    none_refused (presence_of c.args.presence.now) (accepts s) (option_map view c.args.found) (ap (option_map view) (sym c.in-None.is) ∙ c.given.ensures)
    _ c.normal_absent.ensures.err

-- ---- that the walk ends

pub normal_map-loop-name-smaller : goal.normal_map-loop-name-smaller
normal_map-loop-name-smaller g t c =
    omega (arith, ap length c.in-Some.ensures.steps)

pub normal_map-normal_value-requires : goal.normal_map-normal_value-requires
normal_map-normal_value-requires g t c κs within =
    let i = c.loop-name.invariant in
    let e : Entry = (c.in-Some.name, c.in-Some.member) in
    let left = c.next.new.self in
    let steps : c.loop-name.name-iterator ≡ e ∷ left = c.in-Some.ensures.steps in
    let cut = ap (λ es. members_size (members_view es)) steps in
    let all = ap (λ es. members_size (members_view es)) c.into_iter-name-iterator.ensures.into_iter_gives.0 in
    (omega (arith, cut, all, i.4), (within, c.requires))

pub normal_items-normal_value-requires : goal.normal_items-normal_value-requires
normal_items-normal_value-requires g t c κs within =
    let is : into_iter_items c.into_iter-item-iterator.result ≡ c.args.items.items = c.into_iter-item-iterator.ensures.into_iter_gives.0 in
    let cut = ap (λ vs. items_size (items_view vs)) c.in-Some.ensures.steps.0 in
    let all = ap (λ vs. items_size (items_view vs)) is in
    (omega (arith, cut, all, c.loop-item.invariant.smaller), (within, c.requires))

pub move_member-returns-in-Err-clause-ok : goal.move_member-returns-in-Err-clause-ok
move_member-returns-in-Err-clause-ok g t c =
    tt
