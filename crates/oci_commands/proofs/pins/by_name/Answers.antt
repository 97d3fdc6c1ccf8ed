use Rattle.std.proofs.Common.{List, ℕ, subst}
use Rattle.std.proofs.lemmas.Result.{IfOk-weaker}
use Rattle.oci_commands.specs.Pins.{IsTagged, OnSought}
use Rattle.oci_commands.proofs.Targets.{tagged_held}
use Rattle.oci_commands.proofs.pins.by_name.Goals as goal

pub returns-in-Ok : goal.returns-in-Ok
returns-in-Ok g c =
    IfOk-weaker c.by_name_in.result _ _
    (λ sought found. tagged_held c.args.tag.now (g.S.Files.holds c.args.store.now c.args.file.now) c.in-Ok.bytes.items sought c.in-Ok.ensures.bytes
    (subst (λ b. OnSought (λ d. IsTagged c.args.tag.now d b) ((digest : List ℕ) → ¬ IsTagged c.args.tag.now digest b) sought) c.as_slice.ensures.value found))
    c.by_name_in.ensures
