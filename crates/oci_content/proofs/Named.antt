-- The algorithm that a digest names.
use Rattle.std.proofs.Common.{◌≡◌, ◌≢◌, ℕ, ◌<◌, List, ◌∷◌, ◌++◌, length, get_or, Option, Some, None, IfSome, IfNone, refl, ap, ◌∙◌, lit<}
use Rattle.std.proofs.lemmas.Str.Pattern.{IsSplitOnceResult, split_after}
use denote.Ref.{Bor}
use Rattle.oci_base.specs.Classes.{is_lower}
use Rattle.oci_base.proofs.Lacks.{lacks_in, lacks_at}
use Rattle.oci_content.specs.Content.{algorithm_name, IsBy}
use Rattle.oci_content.specs.declared.algorithm.Algorithm.{Algorithm}
use Rattle.oci_content.specs.declared.algorithm.Algorithm.TheVariants.{Sha256, Sha384, Sha512}

no_colon : (a : Algorithm) (i : ℕ) → i < length (algorithm_name a) → get_or (algorithm_name a) i 0 ≢ 58
no_colon Sha256 = lacks_at 58 (algorithm_name Sha256) (lacks_in is_lower 58 refl (algorithm_name Sha256) refl)
no_colon Sha384 = lacks_at 58 (algorithm_name Sha384) (lacks_in is_lower 58 refl (algorithm_name Sha384) refl)
no_colon Sha512 = lacks_at 58 (algorithm_name Sha512) (lacks_in is_lower 58 refl (algorithm_name Sha512) refl)

-- what stands before the first colon is an algorithm's name
pub is_by : (digest name rest : List ℕ) (found : Option Algorithm) → digest ≡ name ++ 58 ∷ rest → IfSome found (λ a. name ≡ algorithm_name a)
    → IfSome found (λ a. IsBy a digest)
is_by digest name rest None cut named = tt
is_by digest name rest (Some a) cut named = (rest, cut ∙ ap (λ n. n ++ 58 ∷ rest) named)

-- or the digest is by none of them
pub not_by : (digest : List ℕ) (name rest : Bor (List ℕ)) (found : Option Algorithm) → IsSplitOnceResult 58 digest (Some (name, rest))
    → IfNone found ((a : Algorithm) → ¬ (name.now ≡ algorithm_name a)) → IfNone found ((a : Algorithm) → ¬ IsBy a digest)
not_by digest name rest (Some a) cut other = tt
not_by digest name rest None cut other = λ a (encoded, e). other a (split_after 58 digest (algorithm_name a) encoded (Some (name, rest)) cut (lit< tt) e (no_colon a)).0

pub no_cut : (digest : List ℕ) → IsSplitOnceResult 58 digest None → (a : Algorithm) → ¬ IsBy a digest
no_cut digest cut a (encoded, e) = split_after 58 digest (algorithm_name a) encoded None cut (lit< tt) e (no_colon a)
