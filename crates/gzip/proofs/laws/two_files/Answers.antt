use Rattle.gzip.proofs.Behind.{files_behind}
use Rattle.gzip.proofs.laws.two_files.Goals as goal

pub returns : goal.returns
returns c = files_behind
