use Rattle.std.proofs.Common.{◌≡◌, refl, subst}
use Rattle.serde_json.specs.View.{view}
use Rattle.oci_commands.specs.Pins.{HoldsOf, IsTaggedBelow}
use Rattle.oci_commands.specs.declared.pins.Named.TheVariants.{Nothing, One, Several}
use Rattle.oci_commands.proofs.Targets.{none_more, first_more, one_more, several_more}
use Rattle.oci_commands.proofs.pins.with_place.Goals as goal

pub returns-in-None : goal.returns-in-None
returns-in-None c = none_more (view c.args.index.now) c.args.tag.now c.args.place c.args.found c.requires (c.in-None.ensures.none refl)

pub returns-in-Nothing : goal.returns-in-Nothing
returns-in-Nothing c =
    let known : c.args.found ≡ Nothing = (let is = c.in-Nothing.is in cc) in
    first_more (view c.args.index.now) c.args.tag.now c.args.place c.in-Some.digest (subst (HoldsOf (IsTaggedBelow (view c.args.index.now) c.args.tag.now c.args.place)) known c.requires) c.in-Some.ensures.some

pub returns-in-One : goal.returns-in-One
returns-in-One c =
    let known : c.args.found ≡ One c.in-One.field-0 = (let is = c.in-One.is in cc) in
    one_more (view c.args.index.now) c.args.tag.now c.args.place c.in-One.field-0 c.in-Some.digest (subst (HoldsOf (IsTaggedBelow (view c.args.index.now) c.args.tag.now c.args.place)) known c.requires) c.in-Some.ensures.some

pub returns-in-Several : goal.returns-in-Several
returns-in-Several c =
    let known : c.args.found ≡ Several = (let is = c.in-Several.is in cc) in
    several_more (view c.args.index.now) c.args.tag.now c.args.place (subst (HoldsOf (IsTaggedBelow (view c.args.index.now) c.args.tag.now c.args.place)) known c.requires)
