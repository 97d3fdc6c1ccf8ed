-- What the laws of commands speak of.
use Rattle.std.specs.Prelude.{◌≡◌, [], ⊤, ℕ, List, false, Some}
use Rattle.oci_schemas.specs.declared.kind.Kind.{Kind}
use Rattle.oci_findings.specs.Checks.{HasKeysOnce, IsKindIn}
use Rattle.oci_findings.specs.declared.asked.Check.{Check}
use Rattle.oci_findings.specs.declared.asked.Unknown.TheVariants.{Allow}
use Rattle.oci_commands.specs.Formats.{FormatsAs}

-- neither rules nor a policy are asked for, unknown members are let be, and nothing is ignored or passed over
pub record AsksTypesAlone (a : Check) : Type 0 where
  pub no_rules : a.rules ≡ false
  pub no_policy : a.policy.now ≡ []
  pub unknown_allowed : a.unknown ≡ Allow
  pub none_ignored : a.ignore.now ≡ []
  pub none_skipped : a.skip_unknown ≡ false

-- the bytes in a file of this name have a canonical form, by the kind that is asked for or found, and no key stands twice in them that may not
pub record HasForm (a : Check) (name bytes : List ℕ) : Type 0 where
  pub kind : Kind
  pub is_kind : IsKindIn a.kind name (Some bytes) kind
  pub form : FormatsAs kind false (Some bytes) (λ text. ⊤)
  pub keys : HasKeysOnce a kind bytes
