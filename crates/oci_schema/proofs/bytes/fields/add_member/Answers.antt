use Rattle.std.proofs.Common.{ap, ◌∙◌}
use Rattle.oci_schema.specs.Shapes.{presence_of}
use Rattle.oci_schema.specs.Given.{given}
use Rattle.oci_schema.proofs.Adding.{adds_absent}
use Rattle.oci_schema.proofs.Presences.{none_stays}
use Rattle.oci_schema.proofs.bytes.fields.add_member.Goals as goal

pub returns-then-lacks : goal.returns-then-lacks
returns-then-lacks c = λ t f d b.
    let p = presence_of c.args.member.now.presence in
    let none = c.lacks.ensures c.if-lacks.true d b in
    adds_absent f d c.args.member c.args.object.now c.add_absent.new.object (c.has_alias.ensures c.if-has_alias.false d b) (ap (given p) none ∙ none_stays p) (c.add_absent.ensures t f d b none)

pub returns-in-Some : goal.returns-in-Some
returns-in-Some c = λ t f d b. c.add_found.ensures t f d b (c.has_alias.ensures c.if-has_alias.false d b)

pub returns-in-None : goal.returns-in-None
returns-in-None c = λ t f d b.
    let p = presence_of c.args.member.now.presence in
    let none = c.in-None.ensures d b in
    adds_absent f d c.args.member c.args.object.now c.add_absent-in-None.new.object (c.has_alias.ensures c.if-has_alias.false d b) (ap (given p) none ∙ none_stays p) (c.add_absent-in-None.ensures t f d b none)
