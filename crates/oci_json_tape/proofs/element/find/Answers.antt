use Rattle.std.proofs.Common.{sym, ◌∙◌}
use Rattle.oci_json_tape.proofs.Walks.{found_begin, found_here, found_there, found_end, none_found}
use Rattle.oci_json_tape.proofs.element.find.Goals as goal

pub returns-in_default : goal.returns-in_default
returns-in_default c = λ d b. none_found c.args.name.now d (c.in_default.ensures d b)

pub each_member-init : goal.each_member-init
each_member-init c = λ d b. found_begin c.args.name.now d c.in-Some.rest (c.in-Some.ensures d b)

pub each_member-preserved-then-eq : goal.each_member-preserved-then-eq
each_member-preserved-then-eq c = λ d b.
    found_here c.args.name.now d c.in-Some-next_member.key.now c.each_member.rest c.next_member.new.members c.in-Some-next_member.member c.each_member.found (sym c.eq.ensures ∙ c.if-eq.true)
    c.in-Some-next_member.ensures.value (c.each_member.invariant d b)

pub each_member-preserved : goal.each_member-preserved
each_member-preserved c = λ d b.
    found_there c.args.name.now d c.in-Some-next_member.key.now c.each_member.rest c.next_member.new.members c.in-Some-next_member.member c.each_member.found (sym c.eq.ensures ∙ c.if-eq.false)
    c.in-Some-next_member.ensures.value (c.each_member.invariant d b)

pub returns : goal.returns
returns c = λ d b. found_end c.args.name.now d c.each_member.rest c.next_member.new.members c.each_member.found c.in_default-next_member.ensures.value (c.each_member.invariant d b)
