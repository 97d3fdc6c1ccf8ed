-- Strings in arrays.
use Rattle.std.proofs.Common.{◌≡◌, Bool, List, [], ◌∷◌, map, Option, Some, IsTrue, sym, subst}
use Rattle.std.specs.Prelude.{◌↔◌}
use Rattle.std.specs.List.{All}
use Rattle.std.proofs.lemmas.List.Elements.{All-nil, All-cons, All-head, All-tail, All-map}
use Rattle.serde_json.specs.Data.{Data, Items}
use Rattle.serde_json.specs.Find.{as_array}
use Rattle.serde_json.specs.View.{view, items_view}
use Rattle.serde_json.specs.declared.value.Value.{Value}
use Rattle.oci_layout.proofs.Items.{list_of-items_view}
use Rattle.oci_saved.specs.Saved.{IsString, AreStrings, MayBeStrings}

pub All-unmap : {X Y : Type 0} (P : X → Type 0) (f : Y → X) (ys : List Y) → All P (map f ys) → All (λ y. P (f y)) ys
All-unmap P f [] h = All-nil (λ y. P (f y))
All-unmap P f (y ∷ ys) h = All-cons (λ y. P (f y)) y ys (All-head P (f y) (map f ys) h) (All-unmap P f ys (All-tail P (f y) (map f ys) h))

strings_are : (b : Bool) (vs : List Value) (o : Option Items) → Some (items_view vs) ≡ o → (IsTrue b ↔ All (λ v. IsString (view v)) vs) → IsTrue b ↔ AreStrings o
strings_are b vs o e h =
    subst (λ o. IsTrue b ↔ AreStrings o) e
    (subst (λ (ds : List Data). IsTrue b ↔ All IsString ds) (sym (list_of-items_view vs)) ((λ t. All-map IsString view vs (h.0 t)), (λ k. h.1 (All-unmap IsString view vs k))))

pub strings : (b : Bool) (vs : List Value) (d : Data) (o : Option Data) → Some d ≡ o → Some (items_view vs) ≡ as_array d → (IsTrue b ↔ All (λ v. IsString (view v)) vs) → IsTrue b ↔ MayBeStrings o
strings b vs d o e there h = subst (λ o. IsTrue b ↔ MayBeStrings o) e (strings_are b vs (as_array d) there h)
