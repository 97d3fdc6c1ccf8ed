-- What `check` accepts of types alone is what `fmt` writes.
use Rattle.std.proofs.Common.{◌≡◌, ◌↔◌, ◌++◌, ◌&&◌, ℕ, List, [], map, codes, Option, Some, None, true, false, if◌then◌else◌, not, sym, ◌∙◌, subst, ap, inl, inr}
use Rattle.std.specs.List.{filter}
use Rattle.serde_json.specs.Data.{Data}
use Rattle.oci_json.specs.Engines.{ReadsAs}
use Rattle.oci_schema.specs.Unknown.{unknown}
use Rattle.oci_schemas.specs.declared.kind.Kind.{Kind}
use Rattle.oci_schemas.specs.Kinds.{shape_of}
use Rattle.oci_rules.specs.Listed.{all_broken}
use Rattle.oci_rules.specs.Rules.{Rule}
use Rattle.oci_findings.specs.Asked.{denies, denies_if, ignores, is_named}
use Rattle.oci_findings.specs.Checks.{IsAsked, IsKindIn, IsPassedOver, IsRight, asked_rules, counted, denied, platform_asked, rules_for, rules_if, is_error}
use Rattle.oci_findings.specs.declared.asked.Check.{Check}
use Rattle.oci_commands.specs.Laws.{AsksTypesAlone, HasForm}

one_value : (bytes : List ℕ) (d e : Data) → ReadsAs bytes d → ReadsAs bytes e → d ≡ e
one_value bytes d e h k = let both : Some d ≡ Some e = sym h.1 ∙ k.1 in cc

kind_in : (asked : Option Kind) (name bytes : List ℕ) (d : Data) (kind : Kind) → ReadsAs bytes d → IsAsked asked name d kind → IsKindIn asked name (Some bytes) kind
kind_in (Some k) name bytes d kind reads h = let same : Some k ≡ Some kind = h in cc
kind_in None name bytes d kind reads h = (d, reads, h)

kind_of : (asked : Option Kind) (name bytes : List ℕ) (d : Data) (kind : Kind) → ReadsAs bytes d → IsKindIn asked name (Some bytes) kind → IsAsked asked name d kind
kind_of (Some k) name bytes d kind reads h = ap Some h
kind_of None name bytes d kind reads (e, other, h) = subst (λ x. IsAsked None name x kind) (one_value bytes e d other reads) h

module _ (books : Kind → List Rule) (a : Check) (alone : AsksTypesAlone a) where
  no_rules : (kind : Kind) → asked_rules books a kind ≡ []
  no_rules kind = ap (λ b. rules_if b (books kind) ++ rules_for kind a.policy.now) alone.no_rules ∙ ap (rules_for kind) alone.no_policy

  none_counted : (kind : Kind) (d : Data) → counted books a kind d ≡ []
  none_counted kind d = ap (λ rs. filter (λ x. is_error a x.0) (all_broken rs (platform_asked a.platform d) d)) (no_rules kind)

  denies_none : denies a ≡ false
  denies_none = ap (λ u. denies_if u a.strict && not (ignores a (codes "unknown"))) alone.unknown_allowed

  none_denied : (kind : Kind) (d : Data) → denied a kind d ≡ []
  none_denied kind d = ap (λ b. if b then unknown (shape_of kind) [] d else []) denies_none

  asks_schema : ignores a (codes "schema") ≡ false
  asks_schema = ap (λ names. is_named names (codes "schema")) alone.none_ignored

  none_passed_over : (name bytes : List ℕ) → IsPassedOver a name bytes → ⊥
  none_passed_over name bytes (skips, none) = let both : true ≡ false = sym skips ∙ alone.none_skipped in cc

pub check_is_format : (books : Kind → List Rule) (a : Check) (name bytes : List ℕ) → AsksTypesAlone a → IsRight books a name bytes ↔ HasForm a name bytes
check_is_format books a name bytes alone = (
  (λ right. elim right [
    | inl document ↦ (
        let (kind, d, asked, reads, (shape, rest), once) = document in
        let (p, means) = shape (asks_schema books a alone) in
        record { kind = kind; is_kind = kind_in a.kind name bytes d kind reads asked; form = (p, (d, reads, means), tt); keys = once })
    | inr passed ↦ absurd (none_passed_over books a alone name bytes passed)
  ]),
  (λ h. let (p, (d, reads, means), t) = h.form in
      inl (
        h.kind,
        d,
        kind_of a.kind name bytes d h.kind reads h.is_kind,
        reads,
        ((λ asked. (p, means)), (none_counted books a alone h.kind d, none_denied books a alone h.kind d)),
        h.keys,
      )),
)
