-- The items of a list and of its clone.
use Rattle.std.proofs.Common.{◌≡◌, List, [], ◌∷◌, refl}
use Rattle.std.specs.List.{AllZip}

pub same_items : {K : Type 0} (xs ys : List K) → AllZip (λ x y. y ≡ x) xs ys → ys ≡ xs
same_items [] [] z = refl
same_items [] (y ∷ ys) z = absurd z
same_items (x ∷ xs) [] z = absurd z
same_items (x ∷ xs) (y ∷ ys) z = rw (z.0, same_items xs ys z.1) refl
