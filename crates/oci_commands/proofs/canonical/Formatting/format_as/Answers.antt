use Rattle.std.proofs.Common.{◌≡◌, Some, sym, ◌∙◌, subst}
use Rattle.std.specs.Io.KnownBytes.{Appends}
use Rattle.std.proofs.lemmas.Result.{IfOk-weaker}
use Rattle.oci_findings.specs.Checks.{IsKindIn}
use Rattle.oci_commands.specs.Formats.{FormatsBy}
use Rattle.oci_commands.proofs.Forms.{refused_as}
use Rattle.oci_commands.proofs.Held.{by_written, put_then}
use Rattle.oci_commands.proofs.canonical.Formatting.format_as.Goals as goal

pub returns-in-Ok-clause-canonical : goal.returns-in-Ok-clause-canonical
returns-in-Ok-clause-canonical g c =
    let a = c.args.self.now.asked.now in
    let text = c.in-Ok.text.items in
    IfOk-weaker c.finish.result _ _
    (λ s same zero checks. by_written a.keep_unknown c.args.found.kind a.pretty (Some c.args.self.now.bytes.now) (λ t. t ≡ text) (λ t. t ≡ c.args.self.now.bytes.now)
    (λ t made. made ∙ sym c.as_slice.ensures.value ∙ same zero checks) c.in-Ok.ensures.ok)
    c.finish.ensures.same

pub returns-in-Ok-clause-written : goal.returns-in-Ok-clause-written
returns-in-Ok-clause-written g c =
    let a = c.args.self.now.asked.now in
    let text = c.in-Ok.text.items in
    let old = g.W.Write.contents c.args.writer.now in
    let new = g.W.Write.contents c.finish.new.writer in
    IfOk-weaker c.finish.result _ _
    (λ s wrote zero checks none. by_written a.keep_unknown c.args.found.kind a.pretty (Some c.args.self.now.bytes.now) (λ t. t ≡ text) (Appends old new)
    (λ t made. subst (Appends old new) (c.as_slice.ensures.value ∙ sym made) (wrote zero checks none)) c.in-Ok.ensures.ok)
    c.finish.ensures.written

pub returns-in-Ok-clause-refused : goal.returns-in-Ok-clause-refused
returns-in-Ok-clause-refused g c =
    IfOk-weaker c.finish.result _ _
    (λ s refused one. refused_as c.args.self.now.asked.now c.args.found.kind c.args.self.now.bytes.now c.in-Ok.text.items c.as_slice.result.now c.in-Ok.ensures.ok c.as_slice.ensures.value (refused one))
    c.finish.ensures.refused

pub returns-in-Ok-clause-put : goal.returns-in-Ok-clause-put
returns-in-Ok-clause-put g c =
    let a = c.args.self.now.asked.now in
    let text = c.in-Ok.text.items in
    let kind = c.args.found.kind in
    let input = Some c.args.self.now.bytes.now in
    IfOk-weaker c.finish.result _ _
    (λ s put zero checks. put_then (g.S.Files.holds c.finish.new.store) a.output (λ b. IsKindIn a.kind a.file.now (Some b) kind × (b ≡ c.as_slice.result.now))
    (λ b. IsKindIn a.kind a.file.now (Some b) kind × FormatsBy a.keep_unknown kind a.pretty input (λ t. t ≡ b))
    (λ b h. (h.0, by_written a.keep_unknown kind a.pretty input (λ t. t ≡ text) (λ t. t ≡ b) (λ t made. made ∙ sym c.as_slice.ensures.value ∙ sym h.1) c.in-Ok.ensures.ok)) (put zero checks))
    c.finish.ensures.put
