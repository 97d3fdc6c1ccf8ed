-- Closed names as members of records.
use Rattle.std.proofs.Common.{◌≡◌, ℕ, List, Bool, true, ap}
use Rattle.std.specs.Prelude.{◌↔◌}
use Rattle.oci_model.specs.Plain as plain
use Rattle.oci_model.specs.Plain.{Plain}

-- a text names itself alone
abbrev pub IsItself : (List ℕ → List ℕ → Type 0) → Type 0
IsItself Spells = (t n : List ℕ) → Spells t n ↔ (t ≡ n)

-- a name is written as itself
abbrev pub IsSpelledAsItself : (List ℕ → List ℕ) → Type 0
IsSpelledAsItself spelling = (n : List ℕ) → spelling n ≡ n

abbrev pub variant_plain : {T : Type 0} → (T → List ℕ) → T → Plain
variant_plain name x = plain.variant (name x)

-- variants are equal exactly if their plain trees are
pub same_variants : {T : Type 0} {eq : T → T → Bool} {name : T → List ℕ} → ((x y : T) → (eq x y ≡ true) ↔ (name x ≡ name y)) → (x y : T) → (eq x y ≡ true) ↔ (variant_plain name x ≡ variant_plain name y)
same_variants same x y = (λ e. ap plain.variant ((same x y).0 e), λ e. (same x y).1 (cc))
