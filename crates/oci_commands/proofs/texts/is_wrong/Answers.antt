use Rattle.std.proofs.Common.{◌≡◌, [], rules}
use Rattle.oci_commands.proofs.texts.is_wrong.Goals as goal

pub returns-clause-wrong : goal.returns-clause-wrong
returns-clause-wrong g c = λ is allowed.
    let wrong : ¬ (c.in_ok-found.found.errors.items ≡ []) = search rules in
    wrong (c.in_ok-found.ensures.all allowed)
