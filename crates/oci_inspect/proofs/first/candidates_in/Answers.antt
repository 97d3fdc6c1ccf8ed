use Rattle.oci_inspect.proofs.first.candidates_in.Goals as goal

pub returns-clause-ok : goal.returns-clause-ok
returns-clause-ok c = record { index = c.in_ok-index.index; means = c.in_ok-index.ensures.ok; same = c.in_ok-with_named.ensures }
