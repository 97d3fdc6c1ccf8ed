-- Lists that are made of other lists, item by item.
use Rattle.std.proofs.Common.{◌≡◌, ℕ, ◌+◌, ◌<◌, List, [], ◌∷◌, ◌++◌, length, get_or, take, map, refl}
use Rattle.std.proofs.lemmas.List.{take_more}
use Rattle.oci_model.specs.Plain.{Plain, plains}

module _ {T U : Type 0} (f : T → Plain) (g : U → Plain) where
  plains_more : (ys : List T) (xs : List U) (y : T) (x : U) → plains (map f ys) ≡ plains (map g xs) → f y ≡ g x → plains (map f (ys ++ y ∷ [])) ≡ plains (map g (xs ++ x ∷ []))
  plains_more [] [] y x h e = rw e refl
  plains_more [] (z ∷ xs) y x h e = cc
  plains_more (z ∷ ys) [] y x h e = cc
  plains_more (z ∷ ys) (w ∷ xs) y x h e =
      let first : f z ≡ g w = cc in
      let rest = plains_more ys xs y x (cc) e in
      cc

  -- the next item of both
  pub plains_next : (ys : List T) (xs : List U) (i : ℕ) (y : T) (d : U) → i < length xs → plains (map f ys) ≡ plains (map g (take i xs)) → f y ≡ g (get_or xs i d)
      → plains (map f (ys ++ y ∷ [])) ≡ plains (map g (take (i + 1) xs))
  plains_next ys xs i y d below h e = rw (take_more xs i d below) (plains_more ys (take i xs) y (get_or xs i d) h e)
