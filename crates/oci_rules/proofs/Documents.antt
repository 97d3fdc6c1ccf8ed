-- What breaks rules in a value breaks them in an equal one.
use Rattle.std.proofs.Common.{◌≡◌, List, map, subst}
use Rattle.std.specs.Prelude.{◌↔◌}
use Rattle.std.specs.List.{Contains}
use Rattle.serde_json.specs.Data.{Data}
use Rattle.oci_rules.specs.Rules.{Rule, Platform}
use Rattle.oci_rules.specs.Breaks.{Told, Breaks}
use Rattle.oci_rules.specs.Tables.{told}
use Rattle.oci_rules.specs.declared.rule.Broken.{Broken}

pub in_equal : (rs : List Rule) (p : Platform) (v : List Broken) (d e : Data) → d ≡ e → ((x : Told) → Contains (map told v) x ↔ Breaks rs p d x) → (x : Told) → Contains (map told v) x ↔ Breaks rs p e x
in_equal rs p v d e same is x = subst (λ (z : Data). Contains (map told v) x ↔ Breaks rs p z x) same (is x)
