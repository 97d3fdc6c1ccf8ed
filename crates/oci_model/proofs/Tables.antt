-- How a text is looked for in the table of a closed name, value by value.
use Rattle.std.proofs.Common.{◌≡◌, ℕ, zero, suc, ◌+◌, ◌<◌, ◌≤◌, List, [], ◌∷◌, drop, map, length, Bool, true, false, ◌||◌, bytes_eq, slice_index_or, ap, refl, sym, ◌∙◌, Some, arith}
use Rattle.std.specs.Prelude.{IsTrue}
use Rattle.oci_base.specs.Names.{is_listed}
use Rattle.oci_model.specs.Variants.{variant_of, listed}

skipped : (a b : Bool) → false ≡ a → (a || b) ≡ b
skipped true b e = cc
skipped false b e = refl

behind : {T : Type 0} (f : T → List ℕ) (t : List ℕ) (xs : List T) (i : ℕ) (x : T) → i < length xs → x ≡ slice_index_or xs i x → false ≡ bytes_eq t (f x)
    → is_listed (map f (drop i xs)) t ≡ is_listed (map f (drop (suc i) xs)) t
behind f t [] i x below is differs = let none : ⊥ = omega arith in absurd none
behind f t (y ∷ ys) zero x below is differs = skipped (bytes_eq t (f y)) (is_listed (map f ys) t) (differs ∙ ap (λ z. bytes_eq t (f z)) is)
behind f t (y ∷ ys) (suc i) x below is differs = behind f t ys i x (omega arith) is differs

-- a text that is not the next value's stands among the values from there on exactly if it stands behind it
pub past : {T : Type 0} (f : T → List ℕ) (t : List ℕ) (xs : List T) (i : ℕ) (x : T) (b : Bool) → b ≡ is_listed (map f (drop i xs)) t → i < length xs → x ≡ slice_index_or xs i x → false ≡ bytes_eq t (f x)
    → b ≡ is_listed (map f (drop (i + 1) xs)) t
past f t xs i x b before below is differs =
    let next : suc i ≡ i + 1 = omega arith in
    before ∙ behind f t xs i x below is differs ∙ ap (λ j. is_listed (map f (drop j xs)) t) next

gone : {T : Type 0} (f : T → List ℕ) (t : List ℕ) (xs : List T) (i : ℕ) → length xs ≤ i → is_listed (map f (drop i xs)) t ≡ false
gone f t [] zero all = refl
gone f t [] (suc i) all = refl
gone f t (y ∷ ys) zero all = let none : ⊥ = omega arith in absurd none
gone f t (y ∷ ys) (suc i) all = gone f t ys i (omega arith)

-- behind the last value no text stands
pub none_left : {T : Type 0} (f : T → List ℕ) (t n : List ℕ) (xs : List T) (i : ℕ) → is_listed (map f xs) t ≡ is_listed (map f (drop i xs)) t → length xs ≤ i
    → IsTrue (is_listed (map f xs) n) → t ≡ n → ⊥
none_left f t n xs i same all listed e =
    let is_not : is_listed (map f xs) t ≡ false = same ∙ gone f t xs i all in
    let is_so : is_listed (map f xs) t ≡ true = ap (is_listed (map f xs)) e ∙ listed in
    cc

-- a text that is none of the table is no value's
pub none_named : {T : Type 0} (f : T → List ℕ) (all xs : List T) (back : (x : T) → variant_of f all (f x) ≡ Some x) (t : List ℕ) → xs ≡ all → ((n : List ℕ) → IsTrue (is_listed (map f xs) n) → t ≡ n → ⊥)
    → (x : T) → f x ≡ t → ⊥
none_named f all xs back t same none x e = none (f x) (rw same (listed f all back x)) (sym e)
