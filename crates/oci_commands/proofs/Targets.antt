-- Digests to which references are pinned.
use Rattle.std.proofs.Common.{◌≡◌, ◌<◌, ◌≤◌, ◌+◌, ◌++◌, ◌∷◌, [], length, inl, inr, ℕ, List, Option, Some, None, refl, subst, sym, ◌∙◌, arith}
use Rattle.std.specs.Prelude.{IfSome, string_bytes, option_and_then, codes}
use Rattle.std.specs.Io.KnownBytes.{Appends}
use Rattle.std.specs.Borrow.{Bor}
use Rattle.std.proofs.lemmas.Bool.{cases_lt}
use Rattle.serde_json.specs.Data.{Data, null, boolean, number, string, array, object}
use Rattle.serde_json.specs.Find.{get, get_item, at, as_array}
use Rattle.serde_json.specs.View.{items_view}
use Rattle.serde_json.specs.declared.value.Value.{Value}
use Rattle.serde_json.proofs.Views.{get_item_past}
use Rattle.oci_reference.specs.Accepted.{Accepted}
use Rattle.oci_reference.specs.Parts.{Parts}
use Rattle.oci_reference.specs.Replaced.{pinned}
use Rattle.oci_reference.specs.Whole.{whole}
use Rattle.oci_commands.specs.declared.asked.Target.{Target}
use Rattle.oci_findings.specs.Checks.{HasNamesOnce, IsAllowed}
use Rattle.oci_json.specs.Engines.{ReadsAs}
use Rattle.oci_model.specs.Means.{Means}
use Rattle.oci_model.specs.Plain.{Plain}
use Rattle.oci_schemas.specs.Kinds.{shape_of}
use Rattle.oci_schemas.specs.declared.kind.Kind.TheVariants.{Index}
use Rattle.oci_commands.specs.Pins.{HoldsOf, HoldsOnlyOf, IsTaggedAt, IsTaggedBelow, IsTagged, IsTarget, OnSought, PinsTo}
use Rattle.oci_commands.specs.declared.pins.Sought.{Sought}
use Rattle.oci_commands.specs.declared.pins.Sought.TheVariants.{Found, Wrong, Unread}
use Rattle.oci_commands.specs.declared.pins.Named.{Named}
use Rattle.oci_commands.specs.declared.pins.Named.TheVariants.{Nothing, One, Several}
use Rattle.oci_commands.proofs.Held.{held}

-- what was found in the bytes of an index that were read
pub tagged_held : (tag : List ℕ) (known : Option (List ℕ)) (bytes : List ℕ) (sought : Sought) → IfSome known (λ b. bytes ≡ b) → OnSought (λ d. IsTagged tag d bytes) ((digest : List ℕ) → ¬ IsTagged tag digest bytes) sought
    → OnSought (λ d. IfSome known (IsTagged tag d)) (IfSome known (λ b. (digest : List ℕ) → ¬ IsTagged tag digest b)) sought
tagged_held tag known bytes (Found digest) is h = held (IsTagged tag (string_bytes digest)) known bytes is h
tagged_held tag known bytes Wrong is h = held (λ b. (digest : List ℕ) → ¬ IsTagged tag digest b) known bytes is h
tagged_held tag known bytes Unread is h = tt

-- ---- the bytes of an index

reads_one : (bytes : List ℕ) (a b : Data) → ReadsAs bytes a → ReadsAs bytes b → a ≡ b
reads_one bytes a b (utf8, one) (also, other) = let same : Some a ≡ Some b = sym one ∙ other in cc

pub is_tagged : (name tag digest bytes : List ℕ) (index : Data) → IsAllowed (Some Index) name bytes → ReadsAs bytes index → HasNamesOnce bytes → HoldsOnlyOf (IsTaggedAt index tag) digest → IsTagged tag digest bytes
is_tagged name tag digest bytes index (kind, d, asked, reads, means) read once only =
    let same : d ≡ index = reads_one bytes d index reads read in
    let is : kind ≡ Index = cc in
    let of_kind : (p : Plain) × Means (shape_of Index) d p = subst (λ k. (p : Plain) × Means (shape_of k) d p) is means in
    (index, read, subst (λ x. (p : Plain) × Means (shape_of Index) x p) same of_kind, once, only)

pub none_tagged : (tag bytes : List ℕ) (index : Data) → ReadsAs bytes index → HoldsOf (IsTaggedAt index tag) Nothing → (digest : List ℕ) → ¬ IsTagged tag digest bytes
none_tagged tag bytes index read none digest (d, reads, means, once, (place, is, only)) =
    none place digest (subst (λ x. IsTaggedAt x tag place digest) (reads_one bytes d index reads read) is)

pub several_tagged : (tag bytes : List ℕ) (index : Data) → ReadsAs bytes index → HoldsOf (IsTaggedAt index tag) Several → (digest : List ℕ) → ¬ IsTagged tag digest bytes
several_tagged tag bytes index read (p, q, a, b, one, two, differ) digest (d, reads, means, once, (place, is, only)) =
    let same : index ≡ d = reads_one bytes index d read reads in
    differ (only p a (subst (λ x. IsTaggedAt x tag p a) same one) ∙ sym (only q b (subst (λ x. IsTaggedAt x tag q b) same two)))

pub twice_tagged : (tag bytes : List ℕ) → ¬ HasNamesOnce bytes → (digest : List ℕ) → ¬ IsTagged tag digest bytes
twice_tagged tag bytes not digest (d, reads, means, once, only) = not once

-- a reference with a digest that was found
pub pins_to : (holds : List ℕ → Option (List ℕ)) (text digest : List ℕ) (target : Target) (old new : Option (List ℕ)) → IsTarget holds target digest
    → ((parts : Parts) × Accepted text parts × Appends old new (whole (pinned parts digest) ++ 10 ∷ [])) → PinsTo holds text target old new
pins_to holds text digest target old new at (parts, is, wrote) = (digest, parts, at, is, wrote)

-- ---- one place more

-- a place is below the limit, or it is the limit
split : (limit place : ℕ) {Q : Type 0} → (place < limit → Q) → (place ≡ limit → Q) → place < limit + 1 → Q
split limit place {Q} below here lt = elim (cases_lt place limit) [ inl less ↦ below less | inr le ↦ here (omega arith) ]

raise : (index : Data) (tag : List ℕ) (limit place : ℕ) (digest : List ℕ) → IsTaggedBelow index tag limit place digest → IsTaggedBelow index tag (limit + 1) place digest
raise index tag limit place digest (lt, is) = (omega arith, is)

module _ (index : Data) (tag : List ℕ) (limit : ℕ) where
  pub none_more : (found : Named) → HoldsOf (IsTaggedBelow index tag limit) found → ((digest : List ℕ) → ¬ IsTaggedAt index tag limit digest) → HoldsOf (IsTaggedBelow index tag (limit + 1)) found
  none_more Nothing h none = λ place digest at. split limit place (λ less. h place digest (less, at.1)) (λ is. none digest (subst (λ p. IsTaggedAt index tag p digest) is at.1)) at.0
  none_more (One d) (place, is, only) none = (
    place,
    raise index tag limit place d.now is,
    λ other e at. split limit other (λ less. only other e (less, at.1)) (λ here. absurd (none e (subst (λ p. IsTaggedAt index tag p e) here at.1))) at.0,
  )
  none_more Several (p, q, a, b, one, two, differ) none = (p, q, a, b, raise index tag limit p a one, raise index tag limit q b two, differ)

  pub first_more : (d : Bor (List ℕ)) → HoldsOf (IsTaggedBelow index tag limit) Nothing → IsTaggedAt index tag limit d.now → HoldsOf (IsTaggedBelow index tag (limit + 1)) (One d)
  first_more d h here = (limit, (omega arith, here), λ other e at. split limit other (λ less. absurd (h other e (less, at.1))) (λ same. same) at.0)

  pub one_more : (o d : Bor (List ℕ)) → HoldsOf (IsTaggedBelow index tag limit) (One o) → IsTaggedAt index tag limit d.now → HoldsOf (IsTaggedBelow index tag (limit + 1)) Several
  one_more o d (place, is, only) here = (place, limit, o.now, d.now, raise index tag limit place o.now is, (omega arith, here), λ same. absurd (omega (arith, same, is.0)))

  pub several_more : HoldsOf (IsTaggedBelow index tag limit) Several → HoldsOf (IsTaggedBelow index tag (limit + 1)) Several
  several_more (p, q, a, b, one, two, differ) = (p, q, a, b, raise index tag limit p a one, raise index tag limit q b two, differ)

-- nothing is below the first place
pub none_yet : (index : Data) (tag : List ℕ) → HoldsOf (IsTaggedBelow index tag 0) Nothing
none_yet index tag = λ place digest at. let (lt, is) = at in absurd (omega arith)

-- ---- all places

-- an array has nothing past its end, and another value nothing at all
pub past_end : (o : Option Data) (vs : List Value) (place : ℕ) → Some (items_view vs) ≡ option_and_then as_array o → length vs ≤ place → option_and_then (at place) o ≡ None
past_end None vs place e le = refl
past_end (Some null) vs place e le = refl
past_end (Some (boolean b)) vs place e le = refl
past_end (Some (number n)) vs place e le = refl
past_end (Some (string s)) vs place e le = refl
past_end (Some (array ds)) vs place e le = let same : items_view vs ≡ ds = cc in subst (λ q. get_item place q ≡ None) same (sym (get_item_past vs place le))
past_end (Some (object ms)) vs place e le = refl

pub no_array : (o : Option Data) (place : ℕ) → None ≡ option_and_then as_array o → option_and_then (at place) o ≡ None
no_array None place e = refl
no_array (Some null) place e = refl
no_array (Some (boolean b)) place e = refl
no_array (Some (number n)) place e = refl
no_array (Some (string s)) place e = refl
no_array (Some (array ds)) place e = absurd (cc)
no_array (Some (object ms)) place e = refl

-- what has a name has it below the number of places
low : (index : Data) (tag : List ℕ) (count place : ℕ) (digest : List ℕ) → ((q : ℕ) → count ≤ q → option_and_then (at q) (get (codes "manifests") index) ≡ None) → IsTaggedAt index tag place digest
    → IsTaggedBelow index tag count place digest
low index tag count place digest none (manifest, is, named, said) =
    elim (cases_lt place count) [ inl lt ↦ (lt, (manifest, is, named, said)) | inr le ↦ absurd (let missing = none place le in cc) ]

pub all_places : (index : Data) (tag : List ℕ) (count : ℕ) (found : Named) → ((q : ℕ) → count ≤ q → option_and_then (at q) (get (codes "manifests") index) ≡ None)
    → HoldsOf (IsTaggedBelow index tag count) found → HoldsOf (IsTaggedAt index tag) found
all_places index tag count Nothing none h = λ place digest at. h place digest (low index tag count place digest none at)
all_places index tag count (One d) none (place, is, only) = (place, is.1, λ other e at. only other e (low index tag count other e none at))
all_places index tag count Several none (p, q, a, b, one, two, differ) = (p, q, a, b, one.1, two.1, differ)
