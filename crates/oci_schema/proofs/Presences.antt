-- What is written for a member by whether it is there.
use Rattle.std.proofs.Common.{◌≡◌, ℕ, Bool, true, false, true≢false, Option, Some, None, is_some, option_map, refl, sym, ap, ◌∙◌}
use Rattle.std.specs.Prelude.{◌||◌, option_and_then, unwrap_or}
use Rattle.serde_json.specs.Data.{Data, null, boolean, number, string, array, object}
use Rattle.serde_json.specs.Find.{as_null, get}
use Rattle.oci_model.specs.Plain.{Plain}
use Rattle.oci_model.specs.Means.{get_second, unless_null}
use Rattle.oci_model.specs.Shape as shape
use Rattle.oci_model.specs.Shape.{Shape, required, defaulted, optional, nullable, unless_empty}
use Rattle.oci_model.specs.Value.{value}
use Rattle.oci_schema.specs.Shapes.{presence_of, alias_of, schema_shape}
use Rattle.oci_schema.specs.declared.record.Member.{Member}
use Rattle.oci_schema.specs.declared.presence.Presence.{Presence}
use Rattle.oci_schema.specs.Allows.{member_allowed, either_allowed}
use Rattle.oci_schema.specs.Given.{given, may_be_null, unless_null_counts, written}
use Rattle.oci_schema.specs.Normalized.{accepts, normalized, normalized_member, unless_no_items, chosen, known_accepted, known_normalized}
use Rattle.oci_schema.specs.Fields.{written_for, accepted_for}

-- ---- null

pub null_dropped : (p : shape.Presence) (d : Data) → may_be_null p ≡ true → is_some (as_null d) ≡ true → given p (Some d) ≡ None
null_dropped p null e is = ap (λ b. unless_null_counts b (Some null)) e
null_dropped p (boolean b) e is = absurd (true≢false (sym is))
null_dropped p (number n) e is = absurd (true≢false (sym is))
null_dropped p (string s) e is = absurd (true≢false (sym is))
null_dropped p (array ds) e is = absurd (true≢false (sym is))
null_dropped p (object ms) e is = absurd (true≢false (sym is))

pub other_given : (p : shape.Presence) (d : Data) → is_some (as_null d) ≡ false → given p (Some d) ≡ Some d
other_given p d is = here (may_be_null p) d is
  where
    here : (b : Bool) (x : Data) → is_some (as_null x) ≡ false → unless_null_counts b (Some x) ≡ Some x
    here false x h = refl
    here true null h = absurd (true≢false h)
    here true (boolean b) h = refl
    here true (number n) h = refl
    here true (string s) h = refl
    here true (array ds) h = refl
    here true (object ms) h = refl

pub all_given : (p : shape.Presence) (d : Data) → may_be_null p ≡ false → given p (Some d) ≡ Some d
all_given p d e = ap (λ b. unless_null_counts b (Some d)) e

none_given : (b : Bool) → unless_null_counts b None ≡ None
none_given true = refl
none_given false = refl

pub none_stays : (p : shape.Presence) → given p None ≡ None
none_stays p = none_given (may_be_null p)

-- ---- by what is given

module _ (v : Plain → Data) (g : Data → Data) (A : Data → Bool) where
  pub by_given : (p : shape.Presence) (o : Option Data) (d : Data) → given p o ≡ Some d → normalized_member p v g o ≡ written p (g d)
  by_given required o d e = ap (option_map g) e
  by_given (defaulted p) None d e = cc
  by_given (defaulted p) (Some c) d e = ap (option_map g) e
  by_given optional o d e = ap (option_map g) e
  by_given nullable o d e = ap (λ q. Some (unwrap_or (option_map g q) null)) e
  by_given unless_empty o d e = ap (λ q. option_and_then unless_no_items (option_map g q)) e

  pub by_none : (p : shape.Presence) (o : Option Data) → given p o ≡ None → normalized_member p v g o ≡ normalized_member p v g None
  by_none required o e = ap (option_map g) e
  by_none (defaulted p) None e = refl
  by_none (defaulted p) (Some c) e = cc
  by_none optional o e = ap (option_map g) e
  by_none nullable o e = ap (λ q. Some (unwrap_or (option_map g q) null)) e
  by_none unless_empty o e = ap (λ q. option_and_then unless_no_items (option_map g q)) e

  unless_null_allowed : (c d : Data) → unless_null c ≡ Some d → (is_some (as_null c) || A c) ≡ A d
  unless_null_allowed null d e = cc
  unless_null_allowed (boolean b) d e = cc
  unless_null_allowed (number n) d e = cc
  unless_null_allowed (string t) d e = cc
  unless_null_allowed (array ds) d e = cc
  unless_null_allowed (object ms) d e = cc

  null_allowed : (c : Data) → unless_null c ≡ None → (is_some (as_null c) || A c) ≡ true
  null_allowed null e = refl
  null_allowed (boolean b) e = cc
  null_allowed (number n) e = cc
  null_allowed (string t) e = cc
  null_allowed (array ds) e = cc
  null_allowed (object ms) e = cc

  pub allowed_given : (p : shape.Presence) (o : Option Data) (d : Data) → given p o ≡ Some d → member_allowed p A o ≡ A d
  allowed_given required None d e = cc
  allowed_given required (Some c) d e = cc
  allowed_given (defaulted p) None d e = cc
  allowed_given (defaulted p) (Some c) d e = cc
  allowed_given optional None d e = cc
  allowed_given optional (Some c) d e = unless_null_allowed c d e
  allowed_given nullable None d e = cc
  allowed_given nullable (Some c) d e = unless_null_allowed c d e
  allowed_given unless_empty None d e = cc
  allowed_given unless_empty (Some c) d e = unless_null_allowed c d e

  pub allowed_none : (p : shape.Presence) (o : Option Data) → given p o ≡ None → member_allowed p A o ≡ member_allowed p A None
  allowed_none required None e = refl
  allowed_none required (Some c) e = cc
  allowed_none (defaulted p) None e = refl
  allowed_none (defaulted p) (Some c) e = cc
  allowed_none optional None e = refl
  allowed_none optional (Some c) e = null_allowed c e
  allowed_none nullable None e = refl
  allowed_none nullable (Some c) e = null_allowed c e
  allowed_none unless_empty None e = refl
  allowed_none unless_empty (Some c) e = null_allowed c e

-- ---- a member that is not there under its alias

module _ (f : ℕ → Shape) (m : Member) (d : Data) (single : get_second (alias_of m.alias) d ≡ None) where
  abbrev P : shape.Presence
  P = presence_of m.presence

  abbrev s : Shape
  s = schema_shape f m.schema

  as_normalized : known_normalized f m d ≡ normalized_member P (value s) (normalized s) (get m.name.now d)
  as_normalized = ap (λ o. normalized_member P (value s) (normalized s) (chosen (get m.name.now d) o)) single

  as_accepted : known_accepted f m d ≡ member_allowed P (accepts s) (get m.name.now d)
  as_accepted = ap (either_allowed P (accepts s) (get m.name.now d)) single

  pub given_normalized : (n : Data) → given P (get m.name.now d) ≡ Some n → known_normalized f m d ≡ written P (normalized s n)
  given_normalized n e = as_normalized ∙ by_given (value s) (normalized s) (accepts s) P (get m.name.now d) n e

  pub absent_normalized : given P (get m.name.now d) ≡ None → known_normalized f m d ≡ written_for f m None
  absent_normalized e = as_normalized ∙ by_none (value s) (normalized s) (accepts s) P (get m.name.now d) e

  pub given_accepted : (n : Data) → given P (get m.name.now d) ≡ Some n → accepts s n ≡ true → known_accepted f m d ≡ true
  given_accepted n e h = as_accepted ∙ allowed_given (value s) (normalized s) (accepts s) P (get m.name.now d) n e ∙ h

  pub absent_accepted : given P (get m.name.now d) ≡ None → accepted_for f m None ≡ true → known_accepted f m d ≡ true
  absent_accepted e h = as_accepted ∙ allowed_none (value s) (normalized s) (accepts s) P (get m.name.now d) e ∙ h

-- ---- by the presence that a member has

pub written_as : (f : ℕ → Shape) (m : Member) (p : Presence) → m.presence ≡ p
    → written_for f m None ≡ normalized_member (presence_of p) (value (schema_shape f m.schema)) (normalized (schema_shape f m.schema)) None
written_as f m p e = ap (λ q. normalized_member (presence_of q) (value (schema_shape f m.schema)) (normalized (schema_shape f m.schema)) None) e

pub accepted_as : (f : ℕ → Shape) (m : Member) (p : Presence) → m.presence ≡ p → accepted_for f m None ≡ member_allowed (presence_of p) (accepts (schema_shape f m.schema)) None
accepted_as f m p e = ap (λ q. member_allowed (presence_of q) (accepts (schema_shape f m.schema)) None) e
