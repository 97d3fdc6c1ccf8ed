use Rattle.std.proofs.Common.{◌≡◌, ◌∷◌, false, rules, string_bytes, sym, ap, ◌∙◌, subst}
use Rattle.serde_json.specs.Data.{member}
use Rattle.serde_json.specs.View.{view, members_view}
use Rattle.serde_json.specs.Written.{has_float, members_have_float}
use Rattle.serde_json.proofs.Views.{Entry}
use Rattle.oci_json.specs.Readable.{HoldReadable}
use Rattle.oci_json_tape.proofs.Adding.{MembersLeft, member_added, none_more}
use Rattle.oci_json_tape.proofs.Ordered.{in_order}
use Rattle.oci_json_tape.proofs.Sinks.{and_then, with_key}
use Rattle.oci_json_tape.proofs.write.+writes.Goals as goal

pub write_members-loop-name-preserved : goal.write_members-loop-name-preserved
write_members-loop-name-preserved g t c =
    let l = c.loop-name in
    let all = members_view c.args.members.now.entries in
    let e : Entry = (c.in-Some.name.now, c.in-Some.member.now) in
    let d = view c.in-Some.member.now in
    let left = c.next.new.self in
    let step : l.name-iterator ≡ e ∷ left = c.in-Some.ensures.steps in
    let wrote = c.in_ok-write_value.ensures in
    let none : has_float d ≡ false = search rules in
    record {
      written =
          and_then l.invariant.written (with_key c.in_ok-key.ensures (wrote.writes c.if-not-branch.false))
          (λ a b x whole added.
          let here : MembersLeft all (member (string_bytes c.in-Some.name.now) d (members_view left)) a b = subst (λ es. MembersLeft all (members_view es) a b) step whole in
          member_added all a c.as_str.result.now d (members_view left) b added.0 x added.1 added.2
          (subst (λ n. MembersLeft all (member n d (members_view left)) a b) (sym c.as_str.ensures.value) here));
      readable = λ h. l.invariant.readable (subst (λ es. HoldReadable (members_view es)) (sym step) (wrote.readable c.if-not-branch.false, h));
      whole = l.invariant.whole ∙ ap (λ es. members_have_float (members_view es)) step ∙ none_more (string_bytes c.in-Some.name.now) d (members_view left) none;
    }

pub write_members-returns-clause-ordered : goal.write_members-returns-clause-ordered
write_members-returns-clause-ordered g t c = λ h. in_order _ c.iter-name-items.ensures.ordered
