use Rattle.gzip.proofs.Examples.{empty_file}
use Rattle.gzip.proofs.laws.an_empty_file.Goals as goal

pub returns : goal.returns
returns c = empty_file
