use Rattle.std.proofs.Common.{◌≡◌, Some, refl, sym, ap, ◌∙◌, subst}
use Rattle.serde_json.specs.Find.{get}
use Rattle.oci_json_tape.specs.Elements.{FindsData}
use Rattle.oci_schema.specs.Shapes.{presence_of, schema_shape}
use Rattle.oci_schema.specs.Given.{given}
use Rattle.oci_schema.specs.Normalized.{normalized}
use Rattle.oci_schema.specs.Objects.{WritesAt}
use Rattle.oci_schema.proofs.Adding.{adds_absent, adds_given, adds_written}
use Rattle.oci_schema.proofs.Presences.{null_dropped, other_given, all_given}
use Rattle.oci_schema.proofs.Slots.{at_within}
use Rattle.oci_schema.proofs.bytes.fields.add_found.Goals as goal
use Rattle.oci_schema.proofs.bytes.fields.add_found.Goals.{else-may_be_null-via-then-may_be_null+else-is_null, else-may_be_null-via-else-may_be_null}

pub unwritten-requires : goal.unwritten-requires
unwritten-requires c = at_within c.requires.0 c.args.object.now.slots.items c.args.at c.requires.1

pub add_null-requires : goal.add_null-requires
add_null-requires c = (c.requires.0, c.requires.1, c.requires.2, (c.in-Some.ensures c.requires.0 c.requires.1).0)

pub returns-then-is_null : goal.returns-then-is_null
returns-then-is_null c = λ t f d b single.
    let m = c.args.member in
    let p = presence_of m.now.presence in
    let own = c.in-Some.ensures c.requires.0 c.requires.1 in
    let x = subst (λ o. FindsData o (get m.now.name.now d)) own.1 (c.requires.3 d b own.0) in
    adds_absent f d m c.args.object.now c.add_null.new.object single
    (ap (given p) x.1 ∙ null_dropped p x.0 (sym c.may_be_null.ensures ∙ c.if-may_be_null.true) (sym (c.is_null.ensures x.0 x.2) ∙ c.if-is_null.true)) (c.add_null.ensures t f d b)

pub write-requires : goal.write-requires
write-requires c = at_within c.requires.0 c.args.object.now.slots.items c.args.at c.requires.1

pub returns : goal.returns
returns c = λ t f d b single.
    let m = c.args.member in
    let p = presence_of m.now.presence in
    let s = c.requires.0 in
    let here = c.requires.1 in
    let old = c.args.object.now in
    let new = c.write.new.self in
    let ts = c.in-Some.value.now in
    let own = c.in-Some.ensures s here in
    let x = subst (λ o. FindsData o (get m.now.name.now d)) own.1 (c.requires.3 d b own.0) in
    let n = normalized (schema_shape f m.now.schema) x.0 in
    let stays : given p (Some x.0) ≡ Some x.0 = elim (c.else-may_be_null.branch) [
      | else-may_be_null-via-then-may_be_null+else-is_null w ↦ other_given p x.0 (sym (w.is_null.ensures x.0 x.2) ∙ w.if-is_null.false)
      | else-may_be_null-via-else-may_be_null w ↦ all_given p x.0 (sym c.may_be_null.ensures ∙ w.if-may_be_null.false)
    ] in
    let wrote = subst (λ o. WritesAt c.args.at s m o old new) own.1 (c.write.ensures s here) in
    adds_given f d m old new single x.0 ts (ap (given p) x.1 ∙ stays) x.2 (c.is_unless_empty.ensures c.if-is_unless_empty.false n)
    (adds_written f d s m (Some ts) n c.args.at old new c.requires.2 own.0 here wrote (x.0, x.2, refl) b)
