use Rattle.std.proofs.Common.{subst, Some}
use Rattle.std.specs.Io.KnownBytes.{Appends}
use Rattle.oci_doc_run.specs.Outputs.{WritesPinned}
use Rattle.oci_commands.proofs.Held.{pinned_held}
use Rattle.oci_commands.proofs.texts.pin.Goals as goal

pub returns-then-done-clause-right : goal.returns-then-done-clause-right
returns-then-done-clause-right g c =
    let wrote = Appends (g.W.Write.contents c.args.writer.now) (g.W.Write.contents c.pin_bytes.new.writer) in
    λ zero. pinned_held c.args.text.now (g.S.Files.holds c.args.store.now c.args.file.now) c.in-Ok.bytes.items wrote c.in-Ok.ensures.bytes
    (subst (λ b. WritesPinned c.args.text.now (Some b) wrote) c.as_slice.ensures.value (c.in_ok-done-in-Ok.ensures.right c.if-done.true))
