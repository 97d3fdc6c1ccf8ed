-- The kind that is asked for, or that bytes are found to be of.
use Rattle.std.specs.Prelude.{◌↔◌}
use Rattle.std.proofs.Common.{◌≡◌, ◌∙◌, ℕ, List, Option, None, Some, ap, subst, sym}
use Rattle.serde_json.specs.Data.{Data}
use Rattle.oci_json.specs.Engines.{ReadsAs}
use Rattle.oci_schemas.specs.declared.kind.Kind.{Kind}
use Rattle.oci_findings.specs.Checks.{IsKindIn}
use Rattle.oci_findings.specs.FoundKind.{kind_for}
use Rattle.oci_findings.proofs.Allowed.{asked_at, kind_in}

one_some : (k kind : Kind) → Some k ≡ Some kind → k ≡ kind
one_some k kind e = cc

pub asked_kind : (asked : Option Kind) (k : Kind) (name bytes : List ℕ) → asked ≡ Some k → (kind : Kind) → (Some k ≡ Some kind) ↔ IsKindIn asked name (Some bytes) kind
asked_kind asked k name bytes is kind = subst (λ a. (Some k ≡ Some kind) ↔ IsKindIn a name (Some bytes) kind) (sym is) (one_some k kind, λ e. ap Some e)

pub found_kind : (asked : Option Kind) (name bytes : List ℕ) (d : Data) (found : Option Kind) → asked ≡ None → ReadsAs bytes d → found ≡ kind_for None name d → (kind : Kind)
    → (found ≡ Some kind) ↔ IsKindIn asked name (Some bytes) kind
found_kind asked name bytes d found none reads is kind =
    subst (λ a. (found ≡ Some kind) ↔ IsKindIn a name (Some bytes) kind) (sym none) (
      (λ e. kind_in None name bytes d kind reads (sym is ∙ e)),
      (λ h. let (other, was, fits) = h in is ∙ asked_at None name bytes other d kind was reads fits),
    )
