-- Lists of one length.
use Rattle.std.proofs.Common.{◌≡◌, List, [], length, ap, sym, ◌∙◌}
use Rattle.std.specs.Prelude.{◌↔◌}
use Rattle.std.proofs.lemmas.List.{nil_from_length}

pub none_of_both : {A B : Type 0} (xs : List A) (ys : List B) → length xs ≡ length ys → (xs ≡ []) ↔ (ys ≡ [])
none_of_both xs ys same = ((λ e. nil_from_length ys (sym same ∙ ap length e)), (λ e. nil_from_length xs (same ∙ ap length e)))
