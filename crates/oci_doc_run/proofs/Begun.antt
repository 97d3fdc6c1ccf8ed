-- Beginnings of what is written.
use Rattle.std.proofs.Common.{◌≡◌, ℕ, zero, suc, ◌+◌, List, [], ◌∷◌, ◌++◌, length, take, take_all, Option, Some, None, Result, Ok, Err, refl, ap, ◌∙◌, append_assoc, sym, subst, arith}
use Rattle.std.specs.Prelude.{OnOk, OnErr}
use Rattle.std.proofs.Math.Seq.{take-append-add}
use Rattle.std.specs.Io.KnownBytes.{Appends}
use Rattle.oci_json.specs.Engines.{AppendsSome}

-- one piece behind another
appends_both : (old mid new : Option (List ℕ)) (a b : List ℕ) → Appends old mid a → Appends mid new b → Appends old new (a ++ b)
appends_both None mid new a b h k = tt
appends_both (Some xs) None new a b h k = absurd h
appends_both (Some xs) (Some ys) None a b h k = absurd k
appends_both (Some xs) (Some ys) (Some zs) a b h k = k ∙ rw (h, append_assoc) refl

-- a beginning behind a piece
pub appends_then : (old mid new : Option (List ℕ)) (a b : List ℕ) → Appends old mid a → AppendsSome mid new b → AppendsSome old new (a ++ b)
appends_then old mid new a b h k =
    (length a + k.0, subst (Appends old new) (sym (take-append-add a b k.0)) (appends_both old mid new a (take k.0 b) h k.1))

-- a beginning of the first part begins the whole
cut_in : (n : ℕ) (a b : List ℕ) → (m : ℕ) × (take m (a ++ b) ≡ take n a)
cut_in zero a b = (0, refl)
cut_in (suc n) [] b = (0, refl)
cut_in (suc n) (x ∷ a) b = let r = cut_in n a b in (suc r.0, ap (λ t. x ∷ t) r.1)

pub appends_first : (old new : Option (List ℕ)) (a b : List ℕ) → AppendsSome old new a → AppendsSome old new (a ++ b)
appends_first old new a b h = let r = cut_in h.0 a b in (r.0, subst (Appends old new) (sym r.1) h.1)

-- the whole is a beginning
appends_all : (old new : Option (List ℕ)) (a : List ℕ) → Appends old new a → AppendsSome old new a
appends_all old new a h = (length a, subst (Appends old new) (sym (take_all (length a) a (omega arith))) h)

-- whatever a write answers, a beginning was written
pub begun : {A B : Type 0} (r : Result A B) (old new : Option (List ℕ)) (a : List ℕ) → OnOk r (Appends old new a) → OnErr r (AppendsSome old new a) → AppendsSome old new a
begun (Ok x) old new a all part = appends_all old new a all
begun (Err e) old new a all part = part

-- what holds in any case holds of an error
pub on_err : {A B : Type 0} (r : Result A B) (P : Type 0) → P → OnErr r P
on_err (Ok x) P h = tt
on_err (Err e) P h = h

-- what follows from what holds of an error
pub err_gives : {A B : Type 0} (r : Result A B) (P Q : Type 0) → (P → Q) → OnErr r P → OnErr r Q
err_gives (Ok x) P Q f h = tt
err_gives (Err e) P Q f h = f h
