-- Closed names as members: what a text means.
use Rattle.std.proofs.Common.{◌≡◌, List, ℕ, Some, None, ◌∙◌, sym, subst, ap}
use Rattle.std.specs.Prelude.{IsTrue}
use Rattle.serde_json.specs.Data.{Data}
use Rattle.serde_json.specs.Find.{as_str}
use Rattle.oci_base.specs.Names.{is_listed}
use Rattle.oci_model.specs.Plain as plain
use Rattle.oci_model.specs.Shape.{named}
use Rattle.oci_model.specs.Means.{Means}
use Rattle.oci_model.specs.Refused.{IsRefused}
use Rattle.oci_model.specs.ClosedNames.{IsItself}

-- what is no text
pub no_closed_name : (table : List (List ℕ)) (d : Data) → None ≡ as_str d → IsRefused (named table) d
unfolding IsRefused
no_closed_name table d e p m = let k = e ∙ m.1 in cc

-- a text of which no name is spelled
pub not_named : (table : List (List ℕ)) (Spells : List ℕ → List ℕ → Type 0) (t : List ℕ) (d : Data) → Some t ≡ as_str d → IsItself Spells
    → ((n : List ℕ) → IsTrue (is_listed table n) → Spells t n → ⊥) → IsRefused (named table) d
unfolding IsRefused
not_named table Spells t d e itself none p m =
    let same : t ≡ m.0 = (let k = e ∙ m.1 in cc) in
    none m.0 m.3 ((itself t m.0).1 same)

-- a text of which a value's name is spelled
pub named_means : {T : Type 0} (table : List (List ℕ)) (Spells : List ℕ → List ℕ → Type 0) (name : T → List ℕ) (t : List ℕ) (d : Data) (x : T) → Some t ≡ as_str d → IsItself Spells
    → ((y : T) → IsTrue (is_listed table (name y))) → Spells t (name x) → Means (named table) d (plain.variant (name x))
named_means table Spells name t d x e itself listed spells =
    let same : t ≡ name x = (itself t (name x)).0 spells in
    (t, sym e, ap plain.variant (sym same), subst (λ n. IsTrue (is_listed table n)) (sym same) (listed x))
