-- The lines of a tree, one more at a time.
use Rattle.std.proofs.Common.{◌≡◌, ℕ, ◌+◌, ◌<◌, List, [], ◌∷◌, ◌++◌, length, take, get_or, sym, ap, ◌∙◌}
use Rattle.std.specs.List.{flat_map}
use Rattle.std.proofs.lemmas.List.{append_assoc, append-nil, get_or_default, take_more}
use Rattle.std.proofs.lemmas.Grind.{flat_map-append}

pub texts_more : {X : Type 0} (f : X → List ℕ) (base old new : List ℕ) (xs : List X) (i : ℕ) (x : X) → i < length xs → x ≡ get_or xs i x → new ≡ old ++ f x
    → old ≡ base ++ flat_map f (take i xs) → new ≡ base ++ flat_map f (take (i + 1) xs)
texts_more f base old new xs i x below is more before =
    let one : flat_map f (x ∷ []) ≡ f x = append-nil (f x) in
    let last : take (i + 1) xs ≡ take i xs ++ x ∷ [] = take_more xs i x below ∙ ap (λ y. take i xs ++ y ∷ []) (sym is) in
    more ∙ ap (λ t. t ++ f x) before ∙ append_assoc base (flat_map f (take i xs)) (f x)
    ∙ ap (λ t. base ++ (flat_map f (take i xs) ++ t)) (sym one) ∙ ap (λ t. base ++ t) (sym (flat_map-append f (take i xs) (x ∷ []))) ∙ ap (λ l. base ++ flat_map f l) (sym last)

-- the same of the item at an index
pub texts_more_at : {X : Type 0} (f : X → List ℕ) (base old new : List ℕ) (xs : List X) (i : ℕ) (d : X) → i < length xs → new ≡ old ++ f (get_or xs i d)
    → old ≡ base ++ flat_map f (take i xs) → new ≡ base ++ flat_map f (take (i + 1) xs)
texts_more_at f base old new xs i d below more before = texts_more f base old new xs i (get_or xs i d) below (get_or_default xs i d _ below) more before
