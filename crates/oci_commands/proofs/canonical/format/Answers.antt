use Rattle.std.proofs.Common.{◌≡◌, Some, subst}
use Rattle.std.specs.Io.KnownBytes.{Appends}
use Rattle.std.proofs.lemmas.Result.{IfOk-weaker}
use Rattle.oci_commands.specs.Formats.{Formats, FormatsTo, IsUnformatted}
use Rattle.oci_commands.proofs.Held.{formats_held, held, put_then, to_held}
use Rattle.oci_commands.proofs.canonical.format.Goals as goal

pub returns-in-Ok-clause-canonical : goal.returns-in-Ok-clause-canonical
returns-in-Ok-clause-canonical g c =
    let a = c.args.asked.now in
    IfOk-weaker c.format.result _ _
    (λ s made zero checks. held (λ bytes. Formats a (Some bytes) (λ t. t ≡ bytes)) (g.S.Files.holds c.args.store.now a.file.now) c.in-Ok.bytes.items c.in-Ok.ensures.bytes
    (subst (λ b. Formats a (Some b) (λ t. t ≡ b)) c.as_slice.ensures.value (made zero checks)))
    c.format.ensures.canonical

pub returns-in-Ok-clause-written : goal.returns-in-Ok-clause-written
returns-in-Ok-clause-written g c =
    let a = c.args.asked.now in
    let wrote = Appends (g.W.Write.contents c.args.writer.now) (g.W.Write.contents c.format.new.writer) in
    IfOk-weaker c.format.result _ _
    (λ s made zero checks none. formats_held a (g.S.Files.holds c.args.store.now a.file.now) c.in-Ok.bytes.items wrote c.in-Ok.ensures.bytes
    (subst (λ b. Formats a (Some b) wrote) c.as_slice.ensures.value (made zero checks none)))
    c.format.ensures.written

pub returns-in-Ok-clause-refused : goal.returns-in-Ok-clause-refused
returns-in-Ok-clause-refused g c =
    let a = c.args.asked.now in
    IfOk-weaker c.format.result _ _
    (λ s refused one. held (IsUnformatted a) (g.S.Files.holds c.args.store.now a.file.now) c.in-Ok.bytes.items c.in-Ok.ensures.bytes (subst (IsUnformatted a) c.as_slice.ensures.value (refused one)))
    c.format.ensures.refused

pub returns-in-Ok-clause-put : goal.returns-in-Ok-clause-put
returns-in-Ok-clause-put g c =
    let a = c.args.asked.now in
    let known = g.S.Files.holds c.args.store.now a.file.now in
    IfOk-weaker c.format.result _ _
    (λ s put zero checks. put_then (g.S.Files.holds c.format.new.store) a.output (FormatsTo a (Some c.as_slice.result.now)) (FormatsTo a known)
    (λ b made. to_held a known c.in-Ok.bytes.items b c.in-Ok.ensures.bytes (subst (λ x. FormatsTo a (Some x) b) c.as_slice.ensures.value made)) (put zero checks))
    c.format.ensures.put
