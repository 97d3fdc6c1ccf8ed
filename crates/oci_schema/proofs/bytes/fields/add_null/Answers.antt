use Rattle.std.proofs.Common.{None}
use Rattle.serde_json.specs.Data.{null}
use Rattle.oci_schema.specs.declared.presence.Presence.TheVariants.{Nullable}
use Rattle.oci_schema.specs.Fields.{written_for}
use Rattle.oci_schema.proofs.Adding.{adds_as, adds_written}
use Rattle.oci_schema.proofs.Presences.{written_as, accepted_as}
use Rattle.oci_schema.proofs.Slots.{at_within}
use Rattle.oci_schema.proofs.bytes.fields.add_null.Goals as goal

pub write_absent-requires : goal.write_absent-requires
write_absent-requires c = at_within c.requires.0 c.args.object.now.slots.items c.args.at c.requires.1

pub returns-in-Nullable : goal.returns-in-Nullable
returns-in-Nullable c = λ t f d b.
    let m = c.args.member in
    let s = c.requires.0 in
    let is = written_as f m.now Nullable c.in-Nullable.is in
    adds_as f d m.now.name.now _ (written_for f m.now None) _ _ c.args.object.now c.write_absent.new.self is (λ h. accepted_as f m.now Nullable c.in-Nullable.is)
    (adds_written f d s m None null c.args.at c.args.object.now c.write_absent.new.self c.requires.2 c.requires.3 c.requires.1 (c.write_absent.ensures s c.requires.1) is b)
