use Rattle.gzip.proofs.Examples.{ten_letters}
use Rattle.gzip.proofs.laws.ten_times_a.Goals as goal

pub returns : goal.returns
returns c = ten_letters
