use Rattle.oci_commands.proofs.drawing.Drawn.add.Goals as goal

pub returns-clause-row : goal.returns-clause-row
returns-clause-row c =
    let made = c.in_ok-row.ensures in
    record { row = c.in_ok-row.row; line = made.line; last = made.last; marked = made.mark; more = c.in_ok-push.ensures.items }
