-- What five texts add, one after the other.
use Rattle.std.proofs.Common.{◌≡◌, ℕ, List, ◌++◌, append_assoc, ap, ◌∙◌}
use Rattle.std.specs.Prelude.{Result, Ok, Err, OnOk}

pub five : (old a b c d last f g h i j : List ℕ) → a ≡ old ++ f → b ≡ a ++ g → c ≡ b ++ h → d ≡ c ++ i → last ≡ d ++ j → last ≡ old ++ (f ++ (g ++ (h ++ (i ++ j))))
five old a b c d last f g h i j p q r s t =
    t ∙ ap (λ x. x ++ j) (s ∙ ap (λ x. x ++ i) (r ∙ ap (λ x. x ++ h) (q ∙ ap (λ x. x ++ g) p)))
    ∙ append_assoc (((old ++ f) ++ g) ++ h) i j
    ∙ append_assoc ((old ++ f) ++ g) h (i ++ j)
    ∙ append_assoc (old ++ f) g (h ++ (i ++ j))
    ∙ append_assoc old f (g ++ (h ++ (i ++ j)))

pub ok_then : {T E P Q : Type 0} (r : Result T E) → (P → Q) → OnOk r P → OnOk r Q
ok_then (Ok x) f p = f p
ok_then (Err e) f p = p
