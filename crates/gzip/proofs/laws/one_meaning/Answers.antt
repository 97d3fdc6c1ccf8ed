use Rattle.gzip.proofs.Behind.{one_text_of_a_file}
use Rattle.gzip.proofs.laws.one_meaning.Goals as goal

pub returns : goal.returns
returns c = one_text_of_a_file
