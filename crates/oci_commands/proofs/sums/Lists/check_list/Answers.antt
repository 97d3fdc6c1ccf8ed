use Rattle.std.proofs.lemmas.Result.{IfOk-weaker}
use Rattle.oci_commands.specs.Sums.{AllMatch, OneDiffers}
use Rattle.oci_commands.proofs.Held.{read_held}
use Rattle.oci_commands.proofs.sums.Lists.check_list.Goals as goal

pub returns-in-Ok-clause-right : goal.returns-in-Ok-clause-right
returns-in-Ok-clause-right g c =
    IfOk-weaker c.check_bytes.result _ _
    (λ o found yes. read_held (λ holds. AllMatch holds c.args.self.asked) _ (g.S.Files.holds c.args.store.now) c.args.file.now c.in-Ok.bytes.items _ c.in-Ok.ensures.kept c.as_slice.ensures.value c.in-Ok.ensures.bytes (found yes))
    c.check_bytes.ensures.right

pub returns-in-Ok-clause-wrong : goal.returns-in-Ok-clause-wrong
returns-in-Ok-clause-wrong g c =
    IfOk-weaker c.check_bytes.result _ _
    (λ o found yes. read_held (λ holds. OneDiffers holds c.args.self.asked) _ (g.S.Files.holds c.args.store.now) c.args.file.now c.in-Ok.bytes.items _ c.in-Ok.ensures.kept c.as_slice.ensures.value c.in-Ok.ensures.bytes (found yes))
    c.check_bytes.ensures.wrong
