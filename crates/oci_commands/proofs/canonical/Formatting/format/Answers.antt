use Rattle.std.proofs.Common.{◌≡◌, Some, rules}
use Rattle.std.specs.Io.KnownBytes.{Appends}
use Rattle.std.proofs.lemmas.Result.{IfOk-weaker}
use Rattle.oci_findings.specs.Checks.{IsKindIn}
use Rattle.oci_commands.specs.Formats.{FormatsBy, FormatsTo}
use Rattle.oci_commands.proofs.Forms.{unformatted_as}
use Rattle.oci_commands.proofs.Held.{formats_asked, formats_to, put_then}
use Rattle.oci_commands.proofs.canonical.Formatting.format.Goals as goal

pub returns-in-Some-clause-canonical : goal.returns-in-Some-clause-canonical
returns-in-Some-clause-canonical g c =
    let a = c.args.self.now.asked.now in
    let bytes = c.args.self.now.bytes.now in
    let fits : IsKindIn a.kind a.file.now (Some bytes) c.in-Some.found.kind = search rules in
    IfOk-weaker c.format_as.result _ _ (λ s made zero checks. formats_asked a c.in-Some.found.kind (Some bytes) (λ t. t ≡ bytes) fits (made zero checks)) c.format_as.ensures.canonical

pub returns-in-Some-clause-written : goal.returns-in-Some-clause-written
returns-in-Some-clause-written g c =
    let a = c.args.self.now.asked.now in
    let bytes = c.args.self.now.bytes.now in
    let fits : IsKindIn a.kind a.file.now (Some bytes) c.in-Some.found.kind = search rules in
    let wrote = Appends (g.W.Write.contents c.args.writer.now) (g.W.Write.contents c.format_as.new.writer) in
    IfOk-weaker c.format_as.result _ _ (λ s made zero checks none. formats_asked a c.in-Some.found.kind (Some bytes) wrote fits (made zero checks none)) c.format_as.ensures.written

pub returns-in-Some-clause-refused : goal.returns-in-Some-clause-refused
returns-in-Some-clause-refused g c =
    let a = c.args.self.now.asked.now in
    let fits : IsKindIn a.kind a.file.now (Some c.args.self.now.bytes.now) c.in-Some.found.kind = search rules in
    IfOk-weaker c.format_as.result _ _ (λ s refused one. unformatted_as a c.in-Some.found.kind c.args.self.now.bytes.now fits (refused one)) c.format_as.ensures.refused

pub returns-in-Some-clause-kept : goal.returns-in-Some-clause-kept
returns-in-Some-clause-kept g c =
    let a = c.args.self.now.asked.now in
    let fits : IsKindIn a.kind a.file.now (Some c.args.self.now.bytes.now) c.in-Some.found.kind = search rules in
    IfOk-weaker c.format_as.result _ _ (λ s keeps zero checks file unasked. (c.in-Some.found.kind, fits, keeps zero checks file unasked)) c.format_as.ensures.kept

pub returns-in-Some-clause-put : goal.returns-in-Some-clause-put
returns-in-Some-clause-put g c =
    let a = c.args.self.now.asked.now in
    let kind = c.in-Some.found.kind in
    let input = Some c.args.self.now.bytes.now in
    let fits : IsKindIn a.kind a.file.now input kind = search rules in
    IfOk-weaker c.format_as.result _ _
    (λ s put zero checks. put_then (g.S.Files.holds c.format_as.new.store) a.output (λ b. IsKindIn a.kind a.file.now (Some b) kind × FormatsBy a.keep_unknown kind a.pretty input (λ t. t ≡ b)) (FormatsTo a input)
    (λ b made. formats_to a kind input b fits made) (put zero checks))
    c.format_as.ensures.put
