-- Variants of closed names, told by their JSON texts.
use Rattle.std.proofs.Common.{◌≡◌, ℕ, List, [], ◌∷◌, Bool, true, false, ◌||◌, Option, Some, None, bytes_eq, cond, refl, ap}
use Rattle.std.specs.Prelude.{◌↔◌, IsTrue, map, if◌then◌else◌}
use denote.Enum.Bare.{Bare, sameb, same_true, true_same}
use denote.Enum.Declared.{Declared}
use Rattle.oci_base.specs.Names.{is_listed}

module _ {K : Type 0} (name : K → List ℕ) where
  -- the first of these variants with the name
  abbrev pub variant_of : List K → List ℕ → Option K
  variant_of [] t = None
  variant_of (x ∷ xs) t = if bytes_eq t (name x) then Some x else variant_of xs t

  found : (xs : List K) (t : List ℕ) (x : K) → variant_of xs t ≡ Some x → is_listed (map name xs) t ≡ true
  found [] t x e = cc
  found (y ∷ ys) t x e = here (bytes_eq t (name y)) e (found ys t x)
    where
      here : (b : Bool) → cond b (Some y) (variant_of ys t) ≡ Some x → (variant_of ys t ≡ Some x → is_listed (map name ys) t ≡ true) → (b || is_listed (map name ys) t) ≡ true
      here true k later = refl
      here false k later = later k

  module _ (all : List K) (back : (x : K) → variant_of all (name x) ≡ Some x) where
    -- each name is in the list of all names
    pub listed : (x : K) → IsTrue (is_listed (map name all) (name x))
    listed x = found all (name x) x (back x)

    -- two variants have two names
    pub one_variant : (x y : K) → name x ≡ name y → x ≡ y
    one_variant x y e = let k = back x in let j = back y in let i : variant_of all (name x) ≡ variant_of all (name y) = ap (variant_of all) e in cc

-- variants are equal exactly if their names are
pub told_by_name : (D : Declared) → Bare D.parts → (name : D.D → List ℕ) (all : List D.D) → ((x : D.D) → variant_of name all (name x) ≡ Some x)
    → (x y : D.D) → (sameb D x y ≡ true) ↔ (name x ≡ name y)
told_by_name D bare name all back x y = (λ e. ap name (same_true D bare x y e), λ e. true_same D x y (one_variant name all back x y e))
