use Rattle.std.proofs.Common.{◌≡◌, [], rules}
use Rattle.oci_commands.proofs.lost.has_name_twice.Goals as goal

pub returns-clause-twice : goal.returns-clause-twice
returns-clause-twice g c = λ is once.
    let wrong : ¬ (c.in_ok-found.found.errors.items ≡ []) = search rules in
    wrong (c.in_ok-found.ensures.1 once)
