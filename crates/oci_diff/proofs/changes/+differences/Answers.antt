use Rattle.std.proofs.Common.{◌≡◌, refl, List, get_or, subst, ◌<◌, length, ◌≤◌, rules, arith, sym, ap, ◌∙◌, None, Some, inl, inr}
use Rattle.std.proofs.lemmas.Result.{on_ok_weaker}
use Rattle.serde_json.specs.Data.{object, array, no_members, member}
use Rattle.serde_json.specs.Find.{get, get_item}
use Rattle.serde_json.specs.View.{view, items_view, members_view}
use Rattle.serde_json.proofs.Views.{view-Object, view-Array}
use Rattle.oci_schema.specs.Places.{under_name, under_index}
use Rattle.oci_diff.proofs.Adds.{in_turn, at_both, within_size, both_parts, member_adds, item_adds, new_item, old_item, old_member, within_size, first_have, rest_among, rest_smaller}
use Rattle.std.specs.Prelude.{string_bytes}
use Rattle.oci_diff.specs.declared.changes.Change.TheVariants.{Added, Removed}
use Rattle.oci_model.specs.Sizes.{size, items_size}
use Rattle.oci_diff.proofs.Aligning.{item_at}
use Rattle.oci_diff.specs.Aligned.{AreAligned}
use Rattle.oci_diff.specs.Best.{IsLongest, IsStepOf}
use Rattle.oci_diff.specs.Same.{AreSame}
use Rattle.oci_diff.specs.declared.aligned.Step.TheVariants.{Same, First, Second}
use Rattle.oci_diff.specs.declared.aligned.Step.{Step}
use Rattle.oci_diff.specs.Tells.{removed, Tells, equal, TellsMember}
use Rattle.std.specs.List.{Contains}
use Rattle.std.proofs.lemmas.List.{get_or_default}
use Rattle.oci_diff.specs.declared.changes.Difference.{Difference}
use Rattle.oci_diff.proofs.Telling.{told_by, told_already, next_told, all_told, next_step_told, values_told, parts_told, whole_told, both_objects_told, both_arrays_told, pair_told, first_alone_told, second_alone_told}
use Rattle.oci_diff.proofs.changes.+differences.Goals as goal

pub add_differences-returns-in_ok-push-clause-so : goal.add_differences-returns-in_ok-push-clause-so
add_differences-returns-in_ok-push-clause-so t c a b stand so =
    c.in_ok-push.ensures.so a b (stand.0, stand.1, search rules) (c.in_ok-add_parts.ensures.so a b stand so)

pub add_member-returns-in-Some-clause-so : goal.add_member-returns-in-Some-clause-so
add_member-returns-in-Some-clause-so t c =
    let is : c.as_str.result.now ≡ under_name c.args.at.now c.args.name.now = c.as_str.ensures.value ∙ c.in_ok-place.ensures in
    let found : get c.args.name.now (view c.args.after.now) ≡ Some (view c.in-Some.other.now) = sym c.in-Some.ensures in
    on_ok_weaker c.add_differences.result (λ adds ms have. member_adds ms _ _ _ c.args.at.now c.as_str.result.now c.args.name.now _ _ is have found adds) c.add_differences.ensures.so

pub add_member-returns-clause-so : goal.add_member-returns-clause-so
add_member-returns-clause-so t c =
    let is : c.as_str-in-None.result.now ≡ under_name c.args.at.now c.args.name.now = c.as_str-in-None.ensures.value ∙ c.in_ok-place.ensures in
    let none : get c.args.name.now (view c.args.after.now) ≡ None = sym c.in-None.ensures in
    on_ok_weaker c.push.result (λ adds ms have. old_member ms _ (view c.args.member.now) (Removed c.args.member) c.args.at.now c.as_str-in-None.result.now c.args.name.now _ _ (λ a b leads lacks. (leads, inl lacks)) is have none adds) c.push.ensures.so

pub add_members-loop-name-preserved : goal.add_members-loop-name-preserved
add_members-loop-name-preserved t c =
    let split : members_view c.loop-name.name-iterator ≡ member (string_bytes c.in-Some.name.now) (view c.in-Some.member.now) (members_view c.next.new.self) = search rules in
    record {
      so = in_turn _ _ _ _ c.loop-name.invariant.so
          (c.in_ok-add_member.ensures.so (members_view c.args.members.now.entries) (first_have _ _ _ _ c.as_str.result.now _ split c.loop-name.invariant.among c.as_str.ensures.value));
      grows = omega (arith, c.loop-name.invariant.grows, c.in_ok-add_member.ensures.grows);
      told = next_told (λ list n x. TellsMember list (under_name c.args.at.now n) x (get n (view c.args.after.now))) _ _ _ _ c.as_str.result.now _ _ _ _ split c.as_str.ensures.value c.loop-name.invariant.told c.in_ok-add_member.ensures.told;
      among = rest_among _ _ _ _ _ split c.loop-name.invariant.among;
      smaller = rest_smaller _ _ _ _ _ split c.loop-name.invariant.smaller;
    }

pub add_parts-returns-in_ok-add_members-in-Object-Object-clause-so : goal.add_parts-returns-in_ok-add_members-in-Object-Object-clause-so
add_parts-returns-in_ok-add_members-in-Object-Object-clause-so t c =
    let first : view c.args.before.now ≡ object (members_view c.in-Object-Object.members.entries) = ap view c.in-Object-Object.is-0 ∙ view-Object c.in-Object-Object.members in
    let second : view c.args.after.now ≡ object (members_view c.in-Object-Object.others.entries) = ap view c.in-Object-Object.is-1 ∙ view-Object c.in-Object-Object.others in
    on_ok_weaker c.add_new_members.result (λ adds. both_parts _ _ _ _ c.args.at.now _ _ _ first second c.in_ok-add_members-in-Object-Object.ensures.so adds) c.add_new_members.ensures.so

pub add_parts-returns-in-Array-Array-clause-so : goal.add_parts-returns-in-Array-Array-clause-so
add_parts-returns-in-Array-Array-clause-so t c =
    let first : view c.args.before.now ≡ array (items_view c.in-Array-Array.items.items) = ap view c.in-Array-Array.is-0 ∙ view-Array c.in-Array-Array.items in
    let second : view c.args.after.now ≡ array (items_view c.in-Array-Array.others.items) = ap view c.in-Array-Array.is-1 ∙ view-Array c.in-Array-Array.others in
    on_ok_weaker c.add_items.result (λ adds. at_both _ _ _ _ c.args.at.now _ _ first second adds) c.add_items.ensures.so

pub add_items-loop-step-preserved : goal.add_items-loop-step-preserved
add_items-loop-step-preserved t c =
    record {
      so = in_turn _ _ _ _ c.loop-step.invariant.so c.in_ok-add_step.ensures.so;
      grows = omega (arith, c.loop-step.invariant.grows, c.in_ok-add_step.ensures.grows);
      told = next_step_told c.args.at.now (items_view c.args.items.now.items) (items_view c.args.others.now.items) c.deref-step-items.result.now c.loop-step.step-index _ _ _ _
          (λ d. get_or_default c.deref-step-items.result.now c.loop-step.step-index Same d c.loop-step-test.true)
          c.loop-step.invariant.told c.in_ok-add_step.ensures.told;
    }

pub add_step-add_differences-requires : goal.add_step-add_differences-requires
add_step-add_differences-requires t c =
    let lt : c.in-Both.index < length c.args.items.now.items = search rules in
    let item : get_item c.in-Both.index (items_view c.args.items.now.items) ≡ Some (view c.index.result.now) = item_at _ _ _ lt c.index.ensures in
    let smaller : size (view c.index.result.now) ≤ items_size (items_view c.args.items.now.items) = within_size _ _ _ item in
    omega (arith, smaller)

pub add_step-returns-in_ok-place-in-Both-clause-so : goal.add_step-returns-in_ok-place-in-Both-clause-so
add_step-returns-in_ok-place-in-Both-clause-so t c =
    let is : c.as_str.result.now ≡ under_index c.args.at.now c.in-Both.index = c.as_str.ensures.value ∙ c.in_ok-place-in-Both.ensures in
    let first : c.in-Both.index < length c.args.items.now.items = search rules in
    let second : c.in-Both.index < length c.args.others.now.items = search rules in
    let item : get_item c.in-Both.index (items_view c.args.items.now.items) ≡ Some (view c.index.result.now) = item_at _ _ _ first c.index.ensures in
    let other : get_item c.in-Both.index (items_view c.args.others.now.items) ≡ Some (view c.index-in-Both.result.now) = item_at _ _ _ second c.index-in-Both.ensures in
    on_ok_weaker c.add_differences.result (λ adds. item_adds _ _ _ _ c.args.at.now c.as_str.result.now c.in-Both.index _ _ is item other adds) c.add_differences.ensures.so

pub add_step-returns-in_ok-place-in-First-clause-so : goal.add_step-returns-in_ok-place-in-First-clause-so
add_step-returns-in_ok-place-in-First-clause-so t c =
    let is : c.as_str-in-First.result.now ≡ under_index c.args.at.now c.in-First.index = c.as_str-in-First.ensures.value ∙ c.in_ok-place-in-First.ensures in
    let lt : c.in-First.index < length c.args.items.now.items = search rules in
    let item : get_item c.in-First.index (items_view c.args.items.now.items) ≡ Some (view c.index-in-First.result.now) = item_at _ _ _ lt c.index-in-First.ensures in
    let step : IsStepOf (items_view c.args.items.now.items) (items_view c.args.others.now.items) c.args.step = search rules in
    let alone : IsStepOf (items_view c.args.items.now.items) (items_view c.args.others.now.items) (First c.in-First.index) = subst (IsStepOf (items_view c.args.items.now.items) (items_view c.args.others.now.items)) c.in-First.is step in
    let differ : AreSame (array (items_view c.args.items.now.items)) (array (items_view c.args.others.now.items)) → ⊥ = search rules in
    on_ok_weaker c.push.result (λ adds. old_item _ _ _ (Removed c.index-in-First.result) c.args.at.now c.as_str-in-First.result.now c.in-First.index _ _ (λ a b leads unlike. (leads, inr unlike)) is item differ alone adds) c.push.ensures.so

pub add_step-returns-in_ok-place-in-Second-clause-so : goal.add_step-returns-in_ok-place-in-Second-clause-so
add_step-returns-in_ok-place-in-Second-clause-so t c =
    let is : c.as_str-in-Second.result.now ≡ under_index c.args.at.now c.in-Second.index = c.as_str-in-Second.ensures.value ∙ c.in_ok-place-in-Second.ensures in
    let lt : c.in-Second.index < length c.args.others.now.items = search rules in
    let other : get_item c.in-Second.index (items_view c.args.others.now.items) ≡ Some (view c.index-in-Second.result.now) = item_at _ _ _ lt c.index-in-Second.ensures in
    let step : IsStepOf (items_view c.args.items.now.items) (items_view c.args.others.now.items) c.args.step = search rules in
    let alone : IsStepOf (items_view c.args.items.now.items) (items_view c.args.others.now.items) (Second c.in-Second.index) = subst (IsStepOf (items_view c.args.items.now.items) (items_view c.args.others.now.items)) c.in-Second.is step in
    let differ : AreSame (array (items_view c.args.items.now.items)) (array (items_view c.args.others.now.items)) → ⊥ = search rules in
    on_ok_weaker c.push-in-Second.result (λ adds. new_item _ _ _ (Added c.index-in-Second.result) c.args.at.now c.as_str-in-Second.result.now c.in-Second.index _ _ (λ a b leads unlike. (leads, inr unlike)) is other differ alone adds) c.push-in-Second.ensures.so

pub add_items-add_step-requires : goal.add_items-add_step-requires
add_items-add_step-requires t c =
    let ds = items_view c.args.items.now.items in
    let es = items_view c.args.others.now.items in
    let lt : c.loop-step.step-index < length c.in_ok-steps.steps.items = search rules in
    let step : IsStepOf ds es (get_or c.deref-step-items.result.now c.loop-step.step-index Same) =
    subst (λ (xs : List Step). IsStepOf ds es (get_or xs c.loop-step.step-index Same)) (sym c.deref-step-items.ensures.value) (c.in_ok-steps.ensures.each c.loop-step.step-index Same lt) in
    (search rules, (search rules, (search rules, step)))

pub add_differences-returns-then-equal_trees-clause-told : goal.add_differences-returns-then-equal_trees-clause-told
add_differences-returns-then-equal_trees-clause-told t c =
    told_already (λ list. Tells list c.args.at.now (view c.args.before.now) (view c.args.after.now)) _ _ refl (λ list. equal (c.equal_trees.ensures.0 c.if-equal_trees.true))

pub add_differences-returns-in_ok-push-clause-told : goal.add_differences-returns-in_ok-push-clause-told
add_differences-returns-in_ok-push-clause-told t c =
    whole_told c.args.at.now (view c.args.before.now) (view c.args.after.now) _ _ _ c.in_ok-add_parts.ensures.told c.in_ok-push.ensures.told

pub add_differences-returns-else-len-count-clause-told : goal.add_differences-returns-else-len-count-clause-told
add_differences-returns-else-len-count-clause-told t c =
    parts_told c.args.at.now (view c.args.before.now) (view c.args.after.now) _ _ (λ none. let same = ap (λ (xs : List Difference). length xs) (c.in_ok-add_parts.ensures.apart none) in absurd (omega (arith, same))) c.in_ok-add_parts.ensures.told

pub add_items-returns-clause-told : goal.add_items-returns-clause-told
add_items-returns-clause-told t c =
    let ds = items_view c.args.items.now.items in
    let es = items_view c.args.others.now.items in
    let m = length c.args.items.now.items in
    let n = length c.args.others.now.items in
    let same = sym c.deref-step-items.ensures.value in
    let aligned = subst (λ (xs : List Step). AreAligned xs ds es) same c.in_ok-steps.ensures.aligned in
    let longest = subst (λ (xs : List Step). m ≤ 64 → n ≤ 64 → IsLongest xs ds es) same c.in_ok-steps.ensures.longest in
    let end : length c.deref-step-items.result.now ≤ c.loop-step.step-index = search rules in
    values_told c.args.at.now c.args.items.now.items c.args.others.now.items c.deref-step-items.result.now c.loop-step.step-index _ _ aligned longest end c.loop-step.invariant.told

pub add_member-returns-in-Some-clause-told : goal.add_member-returns-in-Some-clause-told
add_member-returns-in-Some-clause-told t c =
    let is : c.as_str.result.now ≡ under_name c.args.at.now c.args.name.now = c.as_str.ensures.value ∙ c.in_ok-place.ensures in
    let found : get c.args.name.now (view c.args.after.now) ≡ Some (view c.in-Some.other.now) = sym c.in-Some.ensures in
    on_ok_weaker c.add_differences.result
    (told_by (λ list. Tells list c.as_str.result.now (view c.args.member.now) (view c.in-Some.other.now)) (λ list. TellsMember list (under_name c.args.at.now c.args.name.now) (view c.args.member.now) (get c.args.name.now (view c.args.after.now))) _ _
    (λ list tells. subst (λ o. TellsMember list (under_name c.args.at.now c.args.name.now) (view c.args.member.now) o) (sym found) (subst (λ p. Tells list p (view c.args.member.now) (view c.in-Some.other.now)) is tells)))
    c.add_differences.ensures.told

pub add_member-returns-clause-told : goal.add_member-returns-clause-told
add_member-returns-clause-told t c =
    let is : c.as_str-in-None.result.now ≡ under_name c.args.at.now c.args.name.now = c.as_str-in-None.ensures.value ∙ c.in_ok-place.ensures in
    let none : get c.args.name.now (view c.args.after.now) ≡ None = sym c.in-None.ensures in
    on_ok_weaker c.push.result
    (told_by (λ list. Contains list (c.as_str-in-None.result.now, removed (view c.args.member.now))) (λ list. TellsMember list (under_name c.args.at.now c.args.name.now) (view c.args.member.now) (get c.args.name.now (view c.args.after.now))) _ _
    (λ list there. subst (λ o. TellsMember list (under_name c.args.at.now c.args.name.now) (view c.args.member.now) o) (sym none) (subst (λ p. Contains list (p, removed (view c.args.member.now))) is there)))
    c.push.ensures.told

pub add_members-returns-clause-told : goal.add_members-returns-clause-told
add_members-returns-clause-told t c =
    let none : members_view c.loop-name.name-iterator ≡ no_members = search rules in
    all_told (λ list n x. TellsMember list (under_name c.args.at.now n) x (get n (view c.args.after.now))) _ _ _ _ none c.loop-name.invariant.told

pub add_parts-returns-in_ok-add_members-in-Object-Object-clause-told : goal.add_parts-returns-in_ok-add_members-in-Object-Object-clause-told
add_parts-returns-in_ok-add_members-in-Object-Object-clause-told t c =
    let ms = members_view c.in-Object-Object.members.entries in
    let ns = members_view c.in-Object-Object.others.entries in
    let first : view c.args.before.now ≡ object ms = ap view c.in-Object-Object.is-0 ∙ view-Object c.in-Object-Object.members in
    let second : view c.args.after.now ≡ object ns = ap view c.in-Object-Object.is-1 ∙ view-Object c.in-Object-Object.others in
    on_ok_weaker c.add_new_members.result (λ adds. both_objects_told c.args.at.now _ _ ms ns _ _ _ first second c.in_ok-add_members-in-Object-Object.ensures.told adds) c.add_new_members.ensures.told

pub add_parts-returns-in-Array-Array-clause-told : goal.add_parts-returns-in-Array-Array-clause-told
add_parts-returns-in-Array-Array-clause-told t c =
    let first : view c.args.before.now ≡ array (items_view c.in-Array-Array.items.items) = ap view c.in-Array-Array.is-0 ∙ view-Array c.in-Array-Array.items in
    let second : view c.args.after.now ≡ array (items_view c.in-Array-Array.others.items) = ap view c.in-Array-Array.is-1 ∙ view-Array c.in-Array-Array.others in
    on_ok_weaker c.add_items.result (λ adds. both_arrays_told c.args.at.now _ _ _ _ _ _ first second adds) c.add_items.ensures.told

pub add_step-returns-in_ok-place-in-Both-clause-told : goal.add_step-returns-in_ok-place-in-Both-clause-told
add_step-returns-in_ok-place-in-Both-clause-told t c =
    let ds = items_view c.args.items.now.items in
    let es = items_view c.args.others.now.items in
    let is : c.as_str.result.now ≡ under_index c.args.at.now c.in-Both.index = c.as_str.ensures.value ∙ c.in_ok-place-in-Both.ensures in
    let first : c.in-Both.index < length c.args.items.now.items = search rules in
    let second : c.in-Both.index < length c.args.others.now.items = search rules in
    let item : get_item c.in-Both.index ds ≡ Some (view c.index.result.now) = item_at _ _ _ first c.index.ensures in
    let other : get_item c.in-Both.index es ≡ Some (view c.index-in-Both.result.now) = item_at _ _ _ second c.index-in-Both.ensures in
    on_ok_weaker c.add_differences.result (λ adds. pair_told c.args.at.now c.as_str.result.now ds es c.in-Both.index c.args.step _ _ _ _ is c.in-Both.is item other adds) c.add_differences.ensures.told

pub add_step-returns-in_ok-place-in-First-clause-told : goal.add_step-returns-in_ok-place-in-First-clause-told
add_step-returns-in_ok-place-in-First-clause-told t c =
    let ds = items_view c.args.items.now.items in
    let es = items_view c.args.others.now.items in
    let is : c.as_str-in-First.result.now ≡ under_index c.args.at.now c.in-First.index = c.as_str-in-First.ensures.value ∙ c.in_ok-place-in-First.ensures in
    let lt : c.in-First.index < length c.args.items.now.items = search rules in
    let item : get_item c.in-First.index ds ≡ Some (view c.index-in-First.result.now) = item_at _ _ _ lt c.index-in-First.ensures in
    on_ok_weaker c.push.result (λ adds. first_alone_told c.args.at.now c.as_str-in-First.result.now ds es c.in-First.index c.args.step _ _ _ is c.in-First.is item adds) c.push.ensures.told

pub add_step-returns-in_ok-place-in-Second-clause-told : goal.add_step-returns-in_ok-place-in-Second-clause-told
add_step-returns-in_ok-place-in-Second-clause-told t c =
    let ds = items_view c.args.items.now.items in
    let es = items_view c.args.others.now.items in
    let is : c.as_str-in-Second.result.now ≡ under_index c.args.at.now c.in-Second.index = c.as_str-in-Second.ensures.value ∙ c.in_ok-place-in-Second.ensures in
    let lt : c.in-Second.index < length c.args.others.now.items = search rules in
    let other : get_item c.in-Second.index es ≡ Some (view c.index-in-Second.result.now) = item_at _ _ _ lt c.index-in-Second.ensures in
    on_ok_weaker c.push-in-Second.result (λ adds. second_alone_told c.args.at.now c.as_str-in-Second.result.now ds es c.in-Second.index c.args.step _ _ _ is c.in-Second.is other adds) c.push-in-Second.ensures.told
