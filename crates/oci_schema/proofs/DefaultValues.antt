-- The JSON of default values.
use Rattle.std.proofs.Common.{◌≡◌, refl, sym, ap, ◌∙◌, subst, rules, ℕ, List, Bool, Result, Ok, Err}
use Rattle.std.specs.Prelude.{IfOk}
use Rattle.serde_json.specs.Data.{Data, boolean, string, array, no_items}
use Rattle.serde_json.specs.View.{view}
use Rattle.serde_json.specs.declared.value.Value.{Value, the_lemmas}
use Rattle.serde_json.specs.declared.value.Value.TheVariants as json
use Rattle.oci_model.specs.Fits.{Fits}
use Rattle.oci_model.specs.Plain as plain
use Rattle.oci_model.specs.Plain.{Plain}
use Rattle.oci_model.specs.Shape as shape
use Rattle.oci_model.specs.Shape.{Shape, text, truth, whole, named, open_name, digest_text, cpu_text, cap_set, list, key_set, detail, free_map, rows}
use Rattle.oci_model.specs.Value.{value}

variant_value : (s : Shape) (t : List ℕ) → Fits s (plain.variant t) → value s (plain.variant t) ≡ string t
variant_value text t h = let k = h.1 in cc
variant_value truth t h = let k = h.1 in cc
variant_value (whole low high) t h = let k = h.1 in cc
variant_value (named table) t h = refl
variant_value (open_name table) t h = refl
variant_value digest_text t h = let k = h.1 in cc
variant_value cpu_text t h = let k = h.1 in cc
variant_value (cap_set table) t h = let k = h.1 in cc
variant_value (list s) t h = let k = h.1 in cc
variant_value (shape.map s) t h = let k = h.1 in cc
variant_value key_set t h = let k = h.1 in cc
variant_value detail t h = let k = h.1 in cc
variant_value free_map t h = let k = h.1 in cc
variant_value (rows rs) t h = let k = h.1 in cc

boolean_value : (s : Shape) (b : Bool) → Fits s (plain.truth b) → value s (plain.truth b) ≡ boolean b
boolean_value text b h = let k = h.1 in cc
boolean_value truth b h = refl
boolean_value (whole low high) b h = let k = h.1 in cc
boolean_value (named table) b h = let k = h.1 in cc
boolean_value (open_name table) b h = absurd h
boolean_value digest_text b h = let k = h.1 in cc
boolean_value cpu_text b h = let k = h.1 in cc
boolean_value (cap_set table) b h = let k = h.1 in cc
boolean_value (list s) b h = let k = h.1 in cc
boolean_value (shape.map s) b h = let k = h.1 in cc
boolean_value key_set b h = let k = h.1 in cc
boolean_value detail b h = let k = h.1 in cc
boolean_value free_map b h = let k = h.1 in cc
boolean_value (rows rs) b h = let k = h.1 in cc

list_value : (s : Shape) → Fits s (plain.list plain.no_plains) → value s (plain.list plain.no_plains) ≡ array no_items
list_value text h = let k = h.1 in cc
list_value truth h = let k = h.1 in cc
list_value (whole low high) h = let k = h.1 in cc
list_value (named table) h = let k = h.1 in cc
list_value (open_name table) h = absurd h
list_value digest_text h = let k = h.1 in cc
list_value cpu_text h = let k = h.1 in cc
list_value (cap_set table) h = let k = h.1 in cc
list_value (list s) h = refl
list_value (shape.map s) h = let k = h.1 in cc
list_value key_set h = let k = h.1 in cc
list_value detail h = let k = h.1 in cc
list_value free_map h = let k = h.1 in cc
list_value (rows rs) h = let k = h.1 in cc

view-Bool : (b : Bool) → view (json.Bool b) ≡ boolean b
view-Bool b = search (rules, the_lemmas)

pub variant_default : {E : Type 0} (r : Result Value E) (s : Shape) (t : List ℕ) (p : Plain) → p ≡ plain.variant t → Fits s p → IfOk r (λ v. view v ≡ string t) → IfOk r (λ v. view v ≡ value s p)
variant_default (Ok v) s t p is fits e = e ∙ sym (variant_value s t (subst (Fits s) is fits)) ∙ ap (value s) (sym is)
variant_default (Err x) s t p is fits e = tt

pub boolean_default : (s : Shape) (b : Bool) (p : Plain) → p ≡ plain.truth b → Fits s p → view (json.Bool b) ≡ value s p
boolean_default s b p is fits = view-Bool b ∙ sym (boolean_value s b (subst (Fits s) is fits)) ∙ ap (value s) (sym is)

pub empty_default : (s : Shape) (d : Data) (p : Plain) → p ≡ plain.list plain.no_plains → Fits s p → d ≡ array no_items → d ≡ value s p
empty_default s d p is fits e = e ∙ sym (list_value s (subst (Fits s) is fits)) ∙ ap (value s) (sym is)
