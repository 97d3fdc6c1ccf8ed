-- A document that is no policy.
use Rattle.std.proofs.Common.{◌≡◌, ℕ, List, Some, None, sym, ◌∙◌}
use Rattle.std.proofs.lemmas.Option.{none-some}
use Rattle.toml.specs.Data.{Members}
use Rattle.toml.specs.Parse.{parse_document}
use Rattle.oci_policies.specs.Policies.{Book, IsPolicy, policy_in}

pub no_books : (text : List ℕ) (ms : Members) → parse_document text ≡ Some ms → policy_in ms ≡ None → (books : List Book) → ¬ IsPolicy text books
no_books text ms parsed none books is = let found : policy_in ms ≡ Some books = rw parsed at is in none-some books (sym none ∙ found)
