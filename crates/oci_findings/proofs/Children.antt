-- What is shown of the descriptors of a document.
use Rattle.std.proofs.Common.{◌≡◌, List, [], ◌∷◌, ◌++◌, map, Option, Some, refl, sym, ap, ◌∙◌}
use Rattle.std.specs.Prelude.{unwrap_or}
use Rattle.serde_json.specs.Data.{Data, Items, no_items}
use Rattle.serde_json.specs.View.{view, items_view}
use Rattle.serde_json.specs.declared.value.Value.{Value}
use Rattle.oci_layout.specs.Claims.{list_of}
use Rattle.oci_layout.proofs.Items.{items_seen}
use Rattle.oci_findings.proofs.Facts.{pushed_one}

each : {B : Type 0} (f : Data → B) (vs : List Value) → map (λ v. f (view v)) vs ≡ map f (map view vs)
each f [] = refl
each f (v ∷ vs) = ap (λ l. f (view v) ∷ l) (each f vs)

-- what is shown of the items of an array
pub items_shown : {B : Type 0} (f : Data → B) (vs : List Value) (o : Option Items) → Some (items_view vs) ≡ o
    → map (λ v. f (view v)) vs ≡ map f (list_of (unwrap_or o no_items))
items_shown f vs o found = each f vs ∙ ap (map f) (items_seen vs o found)

-- the last is another, of which the same is shown
pub last_again : {A B : Type 0} (f : A → B) (old front new : List A) (x y : A) → old ≡ front ++ x ∷ [] → new ≡ front ++ y ∷ [] → f x ≡ f y → map f new ≡ map f old
last_again f old front new x y before after same = pushed_one f new front y (f x) after (sym same) ∙ sym (pushed_one f old front x (f x) before refl)
