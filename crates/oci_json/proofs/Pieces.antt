-- Bytes read piece by piece, each behind those before it.
use Rattle.std.proofs.Common.{◌≡◌, ℕ, ◌+◌, List, ◌++◌, length, take, drop, drop_at, Option, Some, None, Result, Ok, Err, IfOk, refl, sym, ap, ◌∙◌, append_assoc, subst}
use Rattle.std.proofs.Math.Seq.{take-add}
use Rattle.std.proofs.lemmas.List.{take-append-le}
use Rattle.std.specs.Io.{ReadsAtMost}
use Rattle.std.specs.Io.KnownBytes.{Consumes, ReadConsumes}

-- what was read into the part stands behind the front
pub in_place : {E : Type 0} (a b : Option (List ℕ)) (r : Result ℕ E) (front part rest : List ℕ) (at : ℕ) → length front ≡ at → ReadsAtMost r part
    → ReadConsumes a b r part → IfOk r (λ n. Consumes a b (take n (drop at (front ++ (part ++ rest)))))
in_place a b (Ok n) front part rest at long fits read =
    subst (Consumes a b) (sym (ap (take n) (drop_at front (part ++ rest) at long) ∙ take-append-le n part rest fits.0)) read.0
in_place a b (Err e) front part rest at long fits read = tt

then : (a b c : Option (List ℕ)) (bs cs : List ℕ) → Consumes a b bs → Consumes b c cs → Consumes a c (bs ++ cs)
then None b c bs cs h k = tt
then (Some xs) None c bs cs h k = absurd h
then (Some xs) (Some ys) None bs cs h k = absurd k
then (Some xs) (Some ys) (Some zs) bs cs h k = rw (h, k, append_assoc bs cs zs) refl

-- the first f of xs were read, and ys has these and n bytes more
pub filled_more : (a b c : Option (List ℕ)) (xs ys : List ℕ) (f n : ℕ) → take f ys ≡ take f xs
    → Consumes a b (take f xs) → Consumes b c (take n (drop f ys)) → Consumes a c (take (f + n) ys)
filled_more a b c xs ys f n front before read =
    subst (Consumes a c) (sym (take-add f n ys)) (then a b c (take f ys) (take n (drop f ys)) (subst (Consumes a b) (sym front) before) read)
