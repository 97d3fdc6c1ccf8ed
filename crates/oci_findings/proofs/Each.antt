-- What holds of each item that was looked at, and the items that were.
use Rattle.std.proofs.Common.{◌≡◌, ◌<◌, ◌+◌, ℕ, zero, suc, List, [], ◌∷◌, ◌++◌, length, take, map, get_or, refl, sym, ap, below_more, subst, arith}
use Rattle.std.proofs.lemmas.List.{get_or_default}
use Rattle.std.specs.List.{HoldsAt}

pub holds_here : {X : Type 0} (P : X → Type 0) (xs : List X) (i : ℕ) (d : X) → i < length xs → P (get_or xs i d) → HoldsAt P xs i
holds_here P xs i d lt h e = subst P (get_or_default xs i d e lt) h

pub next_holds : {X : Type 0} (P : X → Type 0) (xs : List X) (i : ℕ) (d : X) → i < length xs → P (get_or xs i d) → ((k : ℕ) → k < i → HoldsAt P xs k) → (k : ℕ) → k < i + 1 → HoldsAt P xs k
next_holds P xs i d lt h before = below_more _ _ before (holds_here P xs i d lt h)

pub one_more : {X : Type 0} (xs : List X) (i : ℕ) (x : X) → i < length xs → x ≡ get_or xs i x → take (suc i) xs ≡ take i xs ++ x ∷ []
one_more [] i x lt e = absurd (omega arith)
one_more (y ∷ ys) zero x lt e = ap (λ q. q ∷ []) (sym e)
one_more (y ∷ ys) (suc i) x lt e = ap (λ q. y ∷ q) (one_more ys i x (omega arith) e)

pub map_both : {A B : Type 0} (f : A → B) (xs : List A) (y : A) → map f (xs ++ y ∷ []) ≡ map f xs ++ f y ∷ []
map_both f [] y = refl
map_both f (x ∷ xs) y = ap (λ q. f x ∷ q) (map_both f xs y)
