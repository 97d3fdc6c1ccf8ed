-- What is written for a member by what is given for it.
use Rattle.std.proofs.Common.{◌≡◌, refl, sym, ap, ◌∙◌, Bool, true, false, ◌||◌, Option, Some, None, option_map, Result, Ok, Err}
use Rattle.std.specs.Prelude.{unwrap_or, is_some, option_and_then, IfOk, IfErr}
use Rattle.serde_json.specs.Data.{Data, null, boolean, number, string, array, object}
use Rattle.serde_json.specs.Find.{as_null}
use Rattle.serde_json.specs.View.{view}
use Rattle.serde_json.specs.declared.value.Value.{Value}
use Rattle.oci_base.specs.Refused.{IsSchema}
use Rattle.oci_base.specs.declared.error.OciSpecError.{OciSpecError}
use Rattle.oci_model.specs.Means.{unless_null}
use Rattle.oci_model.specs.Plain.{Plain}
use Rattle.oci_model.specs.Shape.{Presence, required, defaulted, optional, nullable, unless_empty}
use Rattle.oci_schema.specs.Allows.{member_allowed}
use Rattle.oci_schema.specs.Normalized.{normalized_member, unless_no_items}
use Rattle.oci_schema.specs.Given.{given, written}

not_null : (x d : Data) → Some d ≡ unless_null x → (unless_null x ≡ Some x) × (is_some (as_null x) ≡ false) × (x ≡ d)
not_null null d is = absurd cc
not_null (boolean b) d is = (refl, refl, cc)
not_null (number n) d is = (refl, refl, cc)
not_null (string t) d is = (refl, refl, cc)
not_null (array ds) d is = (refl, refl, cc)
not_null (object ms) d is = (refl, refl, cc)

is_null : (x : Data) → None ≡ unless_null x → x ≡ null
is_null null is = refl
is_null (boolean b) is = absurd cc
is_null (number n) is = absurd cc
is_null (string t) is = absurd cc
is_null (array ds) is = absurd cc
is_null (object ms) is = absurd cc

-- ---- where a value is given

given_allowed : (p : Presence) (f : Data → Bool) (found : Option Data) (d : Data) → Some d ≡ given p found → member_allowed p f found ≡ f d
given_allowed required f None d is = absurd cc
given_allowed required f (Some x) d is = cc
given_allowed (defaulted q) f None d is = absurd cc
given_allowed (defaulted q) f (Some x) d is = cc
given_allowed optional f None d is = absurd cc
given_allowed optional f (Some x) d is = let n = not_null x d is in ap (λ b. b || f x) n.1 ∙ ap f n.2
given_allowed nullable f None d is = absurd cc
given_allowed nullable f (Some x) d is = let n = not_null x d is in ap (λ b. b || f x) n.1 ∙ ap f n.2
given_allowed unless_empty f None d is = absurd cc
given_allowed unless_empty f (Some x) d is = let n = not_null x d is in ap (λ b. b || f x) n.1 ∙ ap f n.2

given_normalized : (p : Presence) (v : Plain → Data) (g : Data → Data) (found : Option Data) (d : Data) → Some d ≡ given p found → written p (g d) ≡ normalized_member p v g found
given_normalized required v g None d is = absurd cc
given_normalized required v g (Some x) d is = cc
given_normalized (defaulted q) v g None d is = absurd cc
given_normalized (defaulted q) v g (Some x) d is = cc
given_normalized optional v g None d is = absurd cc
given_normalized optional v g (Some x) d is = let n = not_null x d is in ap (λ y. Some (g y)) (sym n.2) ∙ ap (option_map g) (sym n.0)
given_normalized nullable v g None d is = absurd cc
given_normalized nullable v g (Some x) d is = let n = not_null x d is in ap (λ y. Some (g y)) (sym n.2) ∙ ap (λ y. Some (unwrap_or (option_map g y) null)) (sym n.0)
given_normalized unless_empty v g None d is = absurd cc
given_normalized unless_empty v g (Some x) d is =
    let n = not_null x d is in ap (λ y. unless_no_items (g y)) (sym n.2) ∙ ap (λ y. option_and_then unless_no_items (option_map g y)) (sym n.0)

module _ (p : Presence) (f : Data → Bool) (found : Option Data) (d : Data) (is : Some d ≡ given p found) where
  pub given_written : (v : Plain → Data) (g : Data → Data) (c : Data) (o : Option Data) → f d ≡ true → c ≡ g d → o ≡ written p c
      → (member_allowed p f found ≡ true) × (o ≡ normalized_member p v g found)
  given_written v g c o allowed seen made = (given_allowed p f found d is ∙ allowed, made ∙ ap (written p) seen ∙ given_normalized p v g found d is)

  pub given_refused : f d ≡ false → member_allowed p f found ≡ false
  given_refused refused = given_allowed p f found d is ∙ refused

-- ---- where none is

none_allowed : (p : Presence) (f : Data → Bool) (found : Option Data) → None ≡ given p found → member_allowed p f found ≡ member_allowed p f None
none_allowed p f None is = refl
none_allowed required f (Some x) is = absurd cc
none_allowed (defaulted q) f (Some x) is = absurd cc
none_allowed optional f (Some x) is = rw (is_null x is) refl
none_allowed nullable f (Some x) is = rw (is_null x is) refl
none_allowed unless_empty f (Some x) is = rw (is_null x is) refl

none_normalized : (p : Presence) (v : Plain → Data) (g : Data → Data) (found : Option Data) → None ≡ given p found → normalized_member p v g found ≡ normalized_member p v g None
none_normalized p v g None is = refl
none_normalized required v g (Some x) is = absurd cc
none_normalized (defaulted q) v g (Some x) is = absurd cc
none_normalized optional v g (Some x) is = rw (is_null x is) refl
none_normalized nullable v g (Some x) is = rw (is_null x is) refl
none_normalized unless_empty v g (Some x) is = rw (is_null x is) refl

module _ (p : Presence) (f : Data → Bool) (found : Option Data) (is : None ≡ given p found) where
  pub none_written : (v : Plain → Data) (g : Data → Data) (r : Result (Option Value) OciSpecError)
      → IfOk r (λ o. (member_allowed p f None ≡ true) × (option_map view o ≡ normalized_member p v g None))
      → IfOk r (λ o. (member_allowed p f found ≡ true) × (option_map view o ≡ normalized_member p v g found))
  none_written v g (Ok o) h = (none_allowed p f found is ∙ h.0, h.1 ∙ sym (none_normalized p v g found is))
  none_written v g (Err e) h = tt

  pub none_refused : (r : Result (Option Value) OciSpecError) → IfErr r (λ e. IsSchema e → member_allowed p f None ≡ false)
      → IfErr r (λ e. IsSchema e → member_allowed p f found ≡ false)
  none_refused (Ok o) h = tt
  none_refused (Err e) h = λ s. none_allowed p f found is ∙ h s
