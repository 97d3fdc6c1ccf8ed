-- Bytes without a canonical form, and text that is none.
use Rattle.std.specs.Prelude.{IfErr}
use Rattle.std.proofs.Common.{◌≡◌, ◌≢◌, ◌⊎◌, Result, Ok, Err, ℕ, List, true, false, Some, None, inl, inr, sym, ◌∙◌, subst}
use Rattle.serde_json.specs.Data.{Data}
use Rattle.serde_json.specs.Read.{read}
use Rattle.oci_model.specs.Plain.{Plain}
use Rattle.oci_model.specs.Shape.{Shape}
use Rattle.oci_model.specs.Means.{Means}
use Rattle.oci_model.specs.Writable.{Writable}
use Rattle.oci_model.specs.Refused.{IsRefused}
use Rattle.oci_json.specs.Engines.{IsNoJson, IsNotNormalized, MeansBytes}
use Rattle.oci_json.proofs.OneMeaning.{one_meaning}
use Rattle.oci_schema.proofs.Documents.{same_text}
use Rattle.oci_schemas.specs.declared.kind.Kind.{Kind}
use Rattle.oci_schemas.specs.Kinds.{shape_of}
use Rattle.oci_base.specs.Refused.{IsJson, IsSchema}
use Rattle.oci_base.specs.declared.error.OciSpecError.{OciSpecError}
use Rattle.oci_base.specs.declared.error.OciSpecError.TheVariants as error
use Rattle.oci_base.specs.declared.error.SerDeError.TheVariants as serde
use Rattle.oci_findings.specs.Checks.{IsAllowed, IsKindIn}
use Rattle.oci_commands.specs.declared.asked.Format.{Format}
use Rattle.oci_commands.specs.Formats.{FormatsAs, FormatsBy, HasNoForm, IsNotCompact, IsSerDe, IsUnformatted, IsUnformattedAs, WouldChangeKind, WouldLose}
use Rattle.oci_commands.proofs.Held.{as_compact, by_written}

refuses : (s : Shape) (d : Data) → IsRefused s d → (p : Plain) → ¬ Means s d p
unfolding IsRefused
refuses s d h = h

module _ (s : Shape) (bytes : List ℕ) where
  of_no_json : IsNoJson bytes → (p : Plain) → MeansBytes s bytes p → ¬ Writable s p
  of_no_json none p (d, reads, means) w = let no : read bytes ≡ None = none reads.0 in (let both : Some d ≡ None = sym reads.1 ∙ no in cc)

  of_not_normalized : IsNotNormalized s bytes → (p : Plain) → MeansBytes s bytes p → ¬ Writable s p
  of_not_normalized (inl (d, reads, refused)) p (e, other, means) w =
      let same : d ≡ e = (let both : Some d ≡ Some e = sym reads.1 ∙ other.1 in cc) in
      refuses s d refused p (subst (λ x. Means s x p) (sym same) means)
  of_not_normalized (inr (q, (d, reads, means), not)) p (e, other, also) w =
      let same : d ≡ e = (let both : Some d ≡ Some e = sym reads.1 ∙ other.1 in cc) in
      not (subst (Writable s) (one_meaning s d p q (subst (λ x. Means s x p) (sym same) also) means) w)

-- after an error of a document there is no canonical form
pub no_form : (kind : Kind) (bytes : List ℕ) (e : OciSpecError) → (IsJson e → IsNoJson bytes) → (IsSchema e → IsNotNormalized (shape_of kind) bytes) → IsSerDe e → HasNoForm kind bytes
no_form kind bytes (error.SerDe (serde.Json fault)) json schema h = of_no_json (shape_of kind) bytes (json tt)
no_form kind bytes (error.SerDe (serde.Schema fault)) json schema h = of_not_normalized (shape_of kind) bytes (schema tt)
no_form kind bytes (error.Other text) json schema h = absurd h
no_form kind bytes (error.Io fault) json schema h = absurd h
no_form kind bytes (error.Builder fault) json schema h = absurd h
no_form kind bytes error.Memory json schema h = absurd h

pub no_form_of : {A : Type 0} (r : Result A OciSpecError) (kind : Kind) (bytes : List ℕ) → IfErr r (λ e. IsJson e → IsNoJson bytes) → IfErr r (λ e. IsSchema e → IsNotNormalized (shape_of kind) bytes)
    → IfErr r (λ e. IsSerDe e → HasNoForm kind bytes)
no_form_of (Ok x) kind bytes json schema = tt
no_form_of (Err e) kind bytes json schema = no_form kind bytes e json schema

-- the bytes differ from the text of their document, so they are the text of none
pub not_compact : (kind : Kind) (bytes text : List ℕ) → FormatsAs kind false (Some bytes) (λ t. t ≡ text) → text ≢ bytes → IsNotCompact kind bytes
not_compact kind bytes text (p, means, is) differs (q, other, are) = differs (sym is ∙ same_text (shape_of kind) bytes p q means other ∙ are)

-- what is not accepted as a document of its kind
pub unformatted_as : (a : Format) (kind : Kind) (bytes : List ℕ) → IsKindIn a.kind a.file.now (Some bytes) kind → IsUnformattedAs kind a bytes → IsUnformatted a bytes
unformatted_as a kind bytes fits h = inr (kind, fits, h)

pub unformatted_wrong : (a : Format) (bytes : List ℕ) → ¬ IsAllowed a.kind a.file.now bytes → IsUnformatted a bytes
unformatted_wrong a bytes wrong = inl wrong

-- the same of a text that was made of the document (`shown` is what was compared)
pub refused_as : (a : Format) (kind : Kind) (bytes text shown : List ℕ) → FormatsBy a.keep_unknown kind a.pretty (Some bytes) (λ t. t ≡ text) → shown ≡ text
    → WouldLose kind a bytes ⊎ (WouldChangeKind kind a shown ⊎ ((a.check ≡ true) × (shown ≢ bytes))) → IsUnformattedAs kind a bytes
refused_as a kind bytes text shown form same (inl loses) = inr (inl loses)
refused_as a kind bytes text shown form same (inr (inl changes)) =
    inr (inr (by_written a.keep_unknown kind a.pretty (Some bytes) (λ t. t ≡ text) (WouldChangeKind kind a) (λ t made. subst (WouldChangeKind kind a) (same ∙ sym made) changes) form))
refused_as a kind bytes text shown form same (inr (inr (checks, not))) =
    inl (inr (
      checks,
      λ compact drops. not_compact kind bytes text (as_compact a.keep_unknown a.pretty kind (Some bytes) (λ t. t ≡ text) compact drops form) (λ e. not (same ∙ e)),
    ))
