use Rattle.gzip.proofs.Behind.{cut_member, cut_file}
use Rattle.gzip.proofs.laws.a_cut_file.Goals as goal

pub returns-clause-member : goal.returns-clause-member
returns-clause-member c = cut_member

pub returns-clause-file : goal.returns-clause-file
returns-clause-file c = cut_file
