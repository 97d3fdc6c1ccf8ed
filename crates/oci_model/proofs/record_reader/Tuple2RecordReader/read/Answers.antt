use Rattle.oci_model.proofs.Lists.{exits}
use Rattle.oci_model.proofs.RecordReaders.{both_refused, first_and_rest, first_refused, rest_refused}
use Rattle.oci_model.proofs.record_reader.Tuple2RecordReader.read.Goals as goal

pub returns-in_err-found-clause-err : goal.returns-in_err-found-clause-err
returns-in_err-found-clause-err g c = exits _ _ _ c.from_residual.ensures.1 (λ h.
    both_refused _ _ g.A.MemberReader.presence g.A.MemberReader.shape _ _ c.in_err-found.ensures.err.0 c.in_err-found.ensures.err.1)

pub returns-in_err-first-clause-err : goal.returns-in_err-first-clause-err
returns-in_err-first-clause-err g c = exits _ _ _ c.from_residual-in_err-first.ensures.1 (λ h.
    first_refused _ _ g.A.MemberReader.presence g.A.MemberReader.shape _ _ _ c.in_ok-found.ensures.ok (c.in_err-first.ensures.err h))

pub returns-in_err-rest-clause-err : goal.returns-in_err-rest-clause-err
returns-in_err-rest-clause-err g c = exits _ _ _ c.from_residual-in_err-rest.ensures.1 (λ h.
    rest_refused _ _ g.A.MemberReader.presence g.A.MemberReader.shape _ _ _ c.requires.distinct c.in_ok-found.ensures.others (c.in_err-rest.ensures.err h))

pub returns-clause-ok : goal.returns-clause-ok
returns-clause-ok g c =
    first_and_rest _ _ g.A.MemberReader.presence g.A.MemberReader.shape _ _ _ c.requires.distinct c.in_ok-found.ensures.others _ _ _ c.in_ok-found.ensures.ok c.in_ok-first.ensures.ok c.in_ok-rest.ensures.ok
