-- A loop over a list that carries a value on from item to item.
use Rattle.std.proofs.Common.{◌≡◌, ℕ, ◌+◌, ◌<◌, List, [], ◌∷◌, ◌++◌, length, get_or, take, map, sym, ap, append-nil, ◌∙◌}
use Rattle.std.specs.Prelude.{fold}
use Rattle.std.specs.List.{flat_map}
use Rattle.std.proofs.lemmas.Grind.{flat_map-append}
use Rattle.std.proofs.lemmas.List.{take-map, map_more}
use Rattle.std.proofs.lemmas.List.Sums.{fold-append}

-- one item more is one step more
pub fold_more : {A B X : Type 0} (f : B → A → B) (v : X → A) (b : B) (xs : List X) (i : ℕ) (d : X) → i < length xs → fold f b (take (i + 1) (map v xs)) ≡ f (fold f b (take i (map v xs))) (v (get_or xs i d))
fold_more f v b xs i d within =
    ap (fold f b) (take-map v (i + 1) xs ∙ map_more v xs i d within)
    ∙ fold-append f b (map v (take i xs)) (v (get_or xs i d) ∷ [])
    ∙ ap (λ l. f (fold f b l) (v (get_or xs i d))) (sym (take-map v i xs))

-- one item more is one piece more
pub flat_map_more : {A C X : Type 0} (f : A → List C) (v : X → A) (xs : List X) (i : ℕ) (d : X) → i < length xs → flat_map f (take (i + 1) (map v xs)) ≡ flat_map f (take i (map v xs)) ++ f (v (get_or xs i d))
flat_map_more f v xs i d within =
    ap (flat_map f) (take-map v (i + 1) xs ∙ map_more v xs i d within)
    ∙ flat_map-append f (map v (take i xs)) (v (get_or xs i d) ∷ [])
    ∙ ap (λ l. l ++ flat_map f (v (get_or xs i d) ∷ [])) (ap (flat_map f) (sym (take-map v i xs)))
    ∙ ap (λ l. flat_map f (take i (map v xs)) ++ l) (append-nil (f (v (get_or xs i d))))
