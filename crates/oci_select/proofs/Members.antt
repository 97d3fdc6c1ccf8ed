-- Members of a list of texts, as a walk over the list finds them.
use Rattle.std.proofs.Common.{◌≡◌, ℕ, ◌<◌, ◌≤◌, Bool, true, false, List, length, get_or, map, Some, sym, ap, ◌∙◌, bytes_eq, arith, subst}
use Rattle.std.proofs.lemmas.List.{length-map}
use Rattle.std.specs.Prelude.{IsTrue, ◌↔◌, Option, String, Vec, string_bytes}
use Rattle.std.specs.declared.alloc.Global.{Global}
use Rattle.std.specs.List.{slice_get, Contains}
use Rattle.std.specs.Option.{option_map}
use Rattle.std.proofs.lemmas.Option.{slice_get-map, slice_get-get_or, slice_get_within, get_or_from_slice_get}
use Rattle.std.proofs.lemmas.Slice.Eq.{bytes_eq-Decides}
use Rattle.oci_select.specs.Fits.{AreAmong, FeaturesFit}

pub member_at : {X : Type 0} (xs : List X) (k : ℕ) (x : X) → slice_get xs k ≡ Some x → Contains xs x
member_at xs k x e = (k, slice_get_within xs k x e, get_or_from_slice_get xs k x x e)

pub place_of : {X : Type 0} (xs : List X) (x : X) → Contains xs x → (k : ℕ) × (k < length xs) × (slice_get xs k ≡ Some x)
place_of xs x (k, lt, is) = (k, lt, slice_get-get_or xs k x lt ∙ ap Some is)

module _ {T : Type 0} (f : T → List ℕ) (xs : List T) (i : ℕ) (x : T) (lt : i < length xs) (is : x ≡ get_or xs i x) where
  -- the text of the i-th item
  text_at : slice_get (map f xs) i ≡ Some (f x)
  text_at = slice_get-map f xs i ∙ ap (option_map f) (slice_get-get_or xs i x lt ∙ ap Some (sym is))

  pub stands_at : (t : List ℕ) → bytes_eq (f x) t ≡ true → Contains (map f xs) t
  stands_at t same = member_at (map f xs) i t (text_at ∙ ap Some ((bytes_eq-Decides (f x) t).0 same))

  pub differs_at : (t : List ℕ) → bytes_eq (f x) t ≡ false → ¬ (slice_get (map f xs) i ≡ Some t)
  differs_at t other e =
      let same : f x ≡ t = cc (text_at, e) in
      cc (other, (bytes_eq-Decides (f x) t).1 same)

  pub missing_at : (ys : List (List ℕ)) → ¬ Contains ys (f x) → ¬ ((t : List ℕ) → Contains (map f xs) t → Contains ys t)
  missing_at ys none all = none (all (f x) (member_at (map f xs) i (f x) text_at))

-- what no place has is no member
pub not_there : {T : Type 0} (f : T → List ℕ) (xs : List T) (t : List ℕ) (i : ℕ) → length xs ≤ i → ((k : ℕ) → k < i → ¬ (slice_get (map f xs) k ≡ Some t)) → ¬ Contains (map f xs) t
not_there f xs t i far none h = let p = place_of (map f xs) t h in none p.0 (omega (arith, p.1, length-map xs f)) p.2

-- what holds of each place holds of each member
pub each_member : {T : Type 0} (f : T → List ℕ) (xs : List T) (P : List ℕ → Type 0) (i : ℕ) → length xs ≤ i → ((k : ℕ) → k < i → (t : List ℕ) → slice_get (map f xs) k ≡ Some t → P t) → (t : List ℕ) → Contains (map f xs) t → P t
each_member f xs P i far all t h = let p = place_of (map f xs) t h in all p.0 (omega (arith, p.1, length-map xs f)) t p.2

pub one_more : {T : Type 0} (f : T → List ℕ) (xs : List T) (ys : List (List ℕ)) (i : ℕ) (x : T) → i < length xs → x ≡ get_or xs i x → Contains ys (f x) → (t : List ℕ) → slice_get (map f xs) i ≡ Some t → Contains ys t
one_more f xs ys i x lt is here t e =
    let same : f x ≡ t = cc (text_at f xs i x lt is, e) in
    subst (λ z. Contains ys z) same here

-- the features that two platforms state
pub both_stated : (given needed : Option (Vec (String Global) Global)) (g n : Vec (String Global) Global) (gs ns : List (String Global)) (r : Bool)
    → given ≡ Some g → needed ≡ Some n → gs ≡ g.items → ns ≡ n.items → IsTrue r ↔ AreAmong (map string_bytes ns) (map string_bytes gs) → IsTrue r ↔ FeaturesFit given needed
both_stated given needed g n gs ns r is_given is_needed is_gs is_ns h = rw (is_given, is_needed) (rw (is_gs, is_ns) at h)
