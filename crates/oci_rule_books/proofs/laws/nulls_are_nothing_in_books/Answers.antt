use Rattle.oci_rule_books.proofs.NullsInBooks.{unminded}
use Rattle.oci_rule_books.proofs.laws.nulls_are_nothing_in_books.Goals as goal

pub returns : goal.returns
returns c = unminded
