use Rattle.std.specs.List.{Contains}
use Rattle.std.proofs.Common.{◌≡◌, subst, rules, ◌∙◌, is_some, false, None, inl}
use Rattle.std.proofs.lemmas.Result.{on_ok_weaker}
use Rattle.serde_json.specs.Find.{get}
use Rattle.serde_json.specs.View.{view}
use Rattle.oci_schema.specs.Places.{under_name}
use Rattle.oci_diff.proofs.Adds.{new_member, absent_of}
use Rattle.oci_diff.specs.declared.changes.Change.TheVariants.{Added}
use Rattle.oci_diff.specs.Tells.{added, TellsNewMember}
use Rattle.oci_diff.proofs.Telling.{told_by}
use Rattle.oci_diff.proofs.changes.add_new_member.Goals as goal

pub returns-clause-so : goal.returns-clause-so
returns-clause-so c =
    let is : c.as_str.result.now ≡ under_name c.args.at.now c.args.name.now = c.as_str.ensures.value ∙ c.in_ok-place.ensures in
    let no : is_some c.get.result ≡ false = search rules in
    let none : get c.args.name.now (view c.args.before.now) ≡ None = absent_of _ c.get.result _ c.get.ensures no in
    on_ok_weaker c.push.result (λ adds ms have. new_member _ ms (view c.args.other.now) (Added c.args.other) c.args.at.now c.as_str.result.now c.args.name.now _ _ (λ a b leads lacks. (leads, inl lacks)) is have none adds) c.push.ensures.so

pub returns-clause-told : goal.returns-clause-told
returns-clause-told c =
    let is : c.as_str.result.now ≡ under_name c.args.at.now c.args.name.now = c.as_str.ensures.value ∙ c.in_ok-place.ensures in
    on_ok_weaker c.push.result
    (told_by (λ list. Contains list (c.as_str.result.now, added (view c.args.other.now))) (λ list. TellsNewMember list c.args.at.now (view c.args.before.now) c.args.name.now (view c.args.other.now)) _ _
    (λ list there none. subst (λ p. Contains list (p, added (view c.args.other.now))) is there))
    c.push.ensures.told
