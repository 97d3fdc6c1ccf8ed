-- The word that names a level is the word of that level.
use Rattle.std.proofs.Common.{◌≡◌, ℕ, List, Bool, true, false, Some, None, refl, subst}
use Rattle.std.specs.Prelude.{bytes_eq, if◌then◌else◌}
use Rattle.std.proofs.lemmas.Slice.Eq.{bytes_eq-Decides}
use Rattle.oci_rules.specs.Rules.{Level, must, stated, should, host}
use Rattle.oci_rules.specs.Words.{level_named}
use Rattle.oci_ffi.specs.Fields.{level_word}

same_text : (a b : List ℕ) → bytes_eq a b ≡ true → a ≡ b
same_text a b e = (bytes_eq-Decides a b).0 e

named : (t : List ℕ) (k l : Level) → t ≡ level_word k → Some k ≡ Some l → t ≡ level_word l
named t k l it is = let same : k ≡ l = cc in subst (λ m. t ≡ level_word m) same it

chosen : (t : List ℕ) (l : Level) (a b c d : Bool)
    → (if a then Some must else (if b then Some stated else (if c then Some should else (if d then Some host else None)))) ≡ Some l
    → (a ≡ true → t ≡ level_word must) → (b ≡ true → t ≡ level_word stated) → (c ≡ true → t ≡ level_word should) → (d ≡ true → t ≡ level_word host)
    → t ≡ level_word l
chosen t l true b c d e f g h i = named t must l (f refl) e
chosen t l false true c d e f g h i = named t stated l (g refl) e
chosen t l false false true d e f g h i = named t should l (h refl) e
chosen t l false false false true e f g h i = named t host l (i refl) e
chosen t l false false false false e f g h i = cc

pub is_word : (t : List ℕ) (l : Level) → level_named t ≡ Some l → t ≡ level_word l
is_word t l e = chosen t l _ _ _ _ e (same_text t (level_word must)) (same_text t (level_word stated)) (same_text t (level_word should)) (same_text t (level_word host))
