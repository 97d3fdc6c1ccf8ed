-- Texts with a byte between each two, one text more.
use Rattle.std.proofs.Common.{◌≡◌, ℕ, ◌+◌, ◌<◌, List, [], ◌∷◌, ◌++◌, Bool, cond, String, Global, length, get_or, take, map, string_bytes, refl, sym, ap, ◌∙◌, append_assoc, ne_eqb, arith}
use Rattle.std.specs.Prelude.{◌==◌, if◌then◌else◌}
use Rattle.std.specs.List.{join_with_byte}
use Rattle.std.proofs.lemmas.List.{length-map, length-take}
use Rattle.oci_convert.proofs.Steps.{texts_more}

more : (c : ℕ) (first : List ℕ) (xs : List (List ℕ)) (x : List ℕ) → join_with_byte c (first ∷ xs) ++ c ∷ x ≡ join_with_byte c ((first ∷ xs) ++ x ∷ [])
more c first [] x = refl
more c first (y ∷ xs) x = append_assoc first (c ∷ join_with_byte c (y ∷ xs)) (c ∷ x) ∙ ap (λ t. first ++ (c ∷ t)) (more c y xs x)

join_more : (c : ℕ) (xs : List (List ℕ)) (x : List ℕ) (n : ℕ) → n ≡ length xs → join_with_byte c xs ++ (if n == 0 then x else (c ∷ x)) ≡ join_with_byte c (xs ++ x ∷ [])
join_more c [] x n e = rw e refl
join_more c (first ∷ xs) x n e =
    ap (λ (b : Bool). join_with_byte c (first ∷ xs) ++ cond b x (c ∷ x)) (ne_eqb n 0 (λ (z : n ≡ 0). omega arith)) ∙ more c first xs x

pub joined_more : (c : ℕ) (items : List (String Global)) (i : ℕ) (d : String Global) (now next t : List ℕ) → i < length items → now ≡ join_with_byte c (map string_bytes (take i items)) → t ≡ string_bytes (get_or items i d)
    → next ≡ now ++ (if i == 0 then t else (c ∷ t)) → next ≡ join_with_byte c (map string_bytes (take (i + 1) items))
joined_more c items i d now next t lt here is step =
    let count : i ≡ length (map string_bytes (take i items)) = simp (length-map, length-take) (omega arith) in
    step ∙ ap (λ (x : List ℕ). x ++ cond (i == 0) t (c ∷ t)) here
    ∙ ap (λ (x : List ℕ). join_with_byte c (map string_bytes (take i items)) ++ cond (i == 0) x (c ∷ x)) is
    ∙ join_more c (map string_bytes (take i items)) (string_bytes (get_or items i d)) i count
    ∙ ap (join_with_byte c) (sym (texts_more items i d lt))
