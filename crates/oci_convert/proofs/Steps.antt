-- Lists of texts that a loop goes through, one text more.
use Rattle.std.proofs.Common.{◌≡◌, ℕ, ◌+◌, ◌<◌, ◌≤◌, ◌||◌, List, [], ◌∷◌, ◌++◌, Bool, length, get_or, take, map, String, string_bytes, refl, sym, ap, ◌∙◌, append_assoc, Global}
use Rattle.std.proofs.lemmas.List.{map_push, take_more, take_all}
use Rattle.std.specs.List.{list_any, filter}
use Rattle.std.proofs.lemmas.List.Elements.{filter-append}

-- the texts of a list up to and with the i-th
pub texts_more : (xs : List (String Global)) (i : ℕ) (d : String Global) → i < length xs → map string_bytes (take (i + 1) xs) ≡ map string_bytes (take i xs) ++ string_bytes (get_or xs i d) ∷ []
texts_more xs i d lt = ap (map string_bytes) (take_more xs i d lt) ∙ map_push string_bytes (take i xs) (get_or xs i d)

-- what is added by one text more is added by the texts so far and that one
pub added_more : (f : List (List ℕ) → List (List ℕ)) → ((a b : List (List ℕ)) → f (a ++ b) ≡ f a ++ f b) → (before now next : List (List ℕ)) (xs : List (String Global)) (i : ℕ) (d : String Global) → i < length xs
    → now ≡ before ++ f (map string_bytes (take i xs)) → next ≡ now ++ f (string_bytes (get_or xs i d) ∷ []) → next ≡ before ++ f (map string_bytes (take (i + 1) xs))
added_more f adds before now next xs i d lt here step =
    step ∙ ap (λ t. t ++ f (string_bytes (get_or xs i d) ∷ [])) here ∙ append_assoc before (f (map string_bytes (take i xs))) (f (string_bytes (get_or xs i d) ∷ []))
    ∙ ap (λ t. before ++ t) (sym (ap f (texts_more xs i d lt) ∙ adds (map string_bytes (take i xs)) (string_bytes (get_or xs i d) ∷ [])))

-- all texts
pub all_texts : (items more : List (String Global)) (i : ℕ) → length items ≤ i → items ≡ more → map string_bytes (take i items) ≡ map string_bytes more
all_texts items more i far e = ap (map string_bytes) (take_all i items far ∙ e)

pub any_map : {X Y : Type 0} (p : Y → Bool) (f : X → Y) (xs : List X) → list_any p (map f xs) ≡ list_any (λ x. p (f x)) xs
any_map p f [] = refl
any_map p f (x ∷ xs) = ap (λ b. p (f x) || b) (any_map p f xs)

-- the same of numbers that pass a test
pub passed_more : (p : ℕ → Bool) (before now next xs : List ℕ) (i : ℕ) → i < length xs → now ≡ before ++ filter p (take i xs) → next ≡ now ++ filter p (get_or xs i 0 ∷ []) → next ≡ before ++ filter p (take (i + 1) xs)
passed_more p before now next xs i lt here step =
    step ∙ ap (λ t. t ++ filter p (get_or xs i 0 ∷ [])) here ∙ append_assoc before (filter p (take i xs)) (filter p (get_or xs i 0 ∷ []))
    ∙ ap (λ t. before ++ t) (sym (ap (filter p) (take_more xs i 0 lt) ∙ filter-append p (take i xs) (get_or xs i 0 ∷ [])))
