-- Lists, item by item.
use Rattle.std.proofs.Common.{◌≡◌, ℕ, zero, suc, ◌<◌, List, [], ◌∷◌, ◌++◌, length, get_or, map, Some, None, Result, Ok, Err, refl, sym, subst, ap, ◌∙◌, arith}
use Rattle.std.specs.Result.{IfErr, IsErrAnd}
use Rattle.oci_base.specs.Refused.{IsSchema}
use Rattle.oci_base.specs.declared.error.OciSpecError.{OciSpecError}
use Rattle.serde_json.specs.Data.{Data}
use Rattle.serde_json.specs.Find.{as_array}
use Rattle.serde_json.specs.View.{view, items_view}
use Rattle.serde_json.specs.declared.value.Value.{Value}
use Rattle.oci_model.specs.Plain as plain
use Rattle.oci_model.specs.Plain.{Plain, Plains, no_plains, plains}
use Rattle.oci_model.specs.Shape.{Shape, list}
use Rattle.oci_model.specs.Means.{EachMeans, Means}
use Rattle.oci_model.specs.Fits.{Each}
use Rattle.oci_model.specs.Refused.{IsRefused}
use Rattle.oci_model.specs.Value.{each_value}

-- at the exit of a `?`
pub exits : {T : Type 0} (r : Result T OciSpecError) (e : OciSpecError) (P : Type 0) → IsErrAnd r (λ y. y ≡ e) → (IsSchema e → P) → IfErr r (λ y. IsSchema y → P)
exits (Ok x) e P is_err told = tt
exits (Err y) e P is_err told = λ h. let same : y ≡ e = is_err in told (subst IsSchema same h)

pub not_array : (s : Shape) (d : Data) → None ≡ as_array d → IsRefused (list s) d
unfolding IsRefused
not_array s d e p m = let k = e ∙ m.2 in cc

module _ (M : Data → Plain → Type 0) {T : Type 0} (f : T → Plain) where
  pub each_more : (vs : List Value) (xs : List T) (v : Value) (x : T) → EachMeans M (items_view vs) (plains (map f xs)) → M (view v) (f x)
      → EachMeans M (items_view (vs ++ v ∷ [])) (plains (map f (xs ++ x ∷ [])))
  each_more [] [] v x h m = (m, tt)
  each_more [] (y ∷ xs) v x h m = absurd h
  each_more (w ∷ vs) [] v x h m = absurd h
  each_more (w ∷ vs) (y ∷ xs) v x h m = (h.0, each_more vs xs v x h.1 m)

none_at : (s : Shape) (vs : List Value) (i : ℕ) (v : Value) (ps : Plains) → i < length vs → v ≡ get_or vs i v → IsRefused s (view v) → EachMeans (Means s) (items_view vs) ps → ⊥
unfolding IsRefused
none_at s [] i v ps below e refused h = absurd (omega arith)
none_at s (w ∷ vs) i v no_plains below e refused h = h
none_at s (w ∷ vs) zero v (plain.plain p ps) below e refused h = refused p (subst (λ y. Means s (view y) p) (sym e) h.0)
none_at s (w ∷ vs) (suc i) v (plain.plain p ps) below e refused h = none_at s vs i v ps (omega arith) e refused h.1

pub list_refused : (s : Shape) (d : Data) (items vs : List Value) (i : ℕ) (v : Value) → Some (items_view items) ≡ as_array d → vs ≡ items → i < length vs → v ≡ get_or vs i v
    → IsRefused s (view v) → IsRefused (list s) d
unfolding IsRefused
list_refused s d items vs i v found is below at refused p m =
    let seen : m.0 ≡ items_view items = (let k = found ∙ m.2 in cc) in
    none_at s vs i v m.1 below at refused (subst (λ ds. EachMeans (Means s) ds m.1) (seen ∙ ap items_view (sym is)) m.4)

module _ (P : Plain → Type 0) {T : Type 0} (f : T → Plain) where
  pub all_more : (xs : List T) (x : T) → Each P (plains (map f xs)) → P (f x) → Each P (plains (map f (xs ++ x ∷ [])))
  all_more [] x h p = (p, tt)
  all_more (y ∷ xs) x h p = (h.0, all_more xs x h.1 p)

  pub some_lacks : (xs : List T) (i : ℕ) (x : T) → i < length xs → x ≡ get_or xs i x → (P (f x) → ⊥) → Each P (plains (map f xs)) → ⊥
  some_lacks [] i x below e lacks h = absurd (omega arith)
  some_lacks (y ∷ xs) zero x below e lacks h = lacks (subst (λ z. P (f z)) (sym e) h.0)
  some_lacks (y ∷ xs) (suc i) x below e lacks h = some_lacks xs i x (omega arith) e lacks h.1

module _ (g : Plain → Data) {T : Type 0} (f : T → Plain) where
  pub values_more : (ws : List Value) (xs : List T) (w : Value) (x : T) → items_view ws ≡ each_value g (plains (map f xs)) → view w ≡ g (f x)
      → items_view (ws ++ w ∷ []) ≡ each_value g (plains (map f (xs ++ x ∷ [])))
  values_more [] [] w x h e = rw e refl
  values_more [] (y ∷ xs) w x h e = cc
  values_more (v ∷ ws) [] w x h e = cc
  values_more (v ∷ ws) (y ∷ xs) w x h e =
      let first : view v ≡ g (f y) = cc in
      let rest = values_more ws xs w x (cc) e in
      cc

module _ {T : Type 0} (f : T → Plain) where
  pub copies_more : (xs ys : List T) (x y : T) → plains (map f ys) ≡ plains (map f xs) → f y ≡ f x → plains (map f (ys ++ y ∷ [])) ≡ plains (map f (xs ++ x ∷ []))
  copies_more [] [] x y h e = rw e refl
  copies_more [] (z ∷ ys) x y h e = cc
  copies_more (z ∷ xs) [] x y h e = cc
  copies_more (z ∷ xs) (w ∷ ys) x y h e =
      let first : f w ≡ f z = cc in
      let rest = copies_more xs ys x y (cc) e in
      cc

none_among : (s : Shape) (done : List Value) (v : Value) (more : List Value) (ps : Plains) → IsRefused s (view v) → EachMeans (Means s) (items_view (done ++ v ∷ more)) ps → ⊥
unfolding IsRefused
none_among s [] v more no_plains refused h = h
none_among s [] v more (plain.plain p ps) refused h = refused p h.0
none_among s (w ∷ done) v more no_plains refused h = h
none_among s (w ∷ done) v more (plain.plain p ps) refused h = none_among s done v more ps refused h.1

pub items_refused : (s : Shape) (d : Data) (all done : List Value) (v : Value) (more : List Value) → Some (items_view all) ≡ as_array d → all ≡ done ++ v ∷ more
    → IsRefused s (view v) → IsRefused (list s) d
unfolding IsRefused
items_refused s d all done v more found is refused p m =
    let seen : m.0 ≡ items_view all = (let k = found ∙ m.2 in cc) in
    none_among s done v more m.1 refused (subst (λ ds. EachMeans (Means s) ds m.1) (seen ∙ ap items_view is) m.4)
