-- What is listed, part by part.
use Rattle.std.proofs.Common.{◌≡◌, ℕ, zero, suc, Bool, true, false, List, [], ◌∷◌, ◌++◌, length, Option, Some, None, Result, Ok, Err, OnOk, refl, sym, ap, ◌∙◌, subst, true≢false, append_assoc, append-nil, arith}
use Rattle.std.specs.Prelude.{◌<◌, ◌==◌, slice_get}
use Rattle.std.specs.List.{All}
use Rattle.std.proofs.lemmas.List.Elements.{All-nil, All-cons, All-head, All-tail, All-append}
use Rattle.oci_layout.specs.Looks.{Contents}
use Rattle.oci_saved.specs.Facts.{Adds}
use Rattle.oci_saved.specs.Files.{OverFiles}

-- ---- one part after the other

pub nothing_added : {X : Type 0} (Q : X → Type 0) (P : Type 0) (xs : List X) → P → Adds Q P xs xs
nothing_added Q P xs p = record { more = []; behind = sym (append-nil xs); none = ((λ _. p), (λ _. refl)); so = All-nil Q }

pub one_added : {X : Type 0} (Q : X → Type 0) (P : Type 0) (old new : List X) (x : X) → new ≡ old ++ x ∷ [] → Q x → ¬ P → Adds Q P old new
one_added Q P old new x is so wrong = record { more = x ∷ []; behind = is; none = ((λ e. absurd cc), (λ p. absurd (wrong p))); so = All-cons Q x [] so (All-nil Q) }

both_empty : {X : Type 0} (xs ys : List X) → xs ++ ys ≡ [] → (xs ≡ []) × (ys ≡ [])
both_empty [] ys e = (refl, e)
both_empty (x ∷ xs) ys e = absurd cc

pub both_added : {X : Type 0} (Q : X → Type 0) (P R : Type 0) (old mid new : List X) → Adds Q P old mid → Adds Q R mid new → Adds Q (P × R) old new
both_added {X} Q P R old mid new a b = record {
  more = a.more ++ b.more;
  behind = b.behind ∙ ap (λ (l : List X). l ++ b.more) a.behind ∙ append_assoc old a.more b.more;
  none = (
    (λ e. let (x, y) = both_empty a.more b.more e in (a.none.0 x, b.none.0 y)),
    (λ h. ap (λ (l : List X). l ++ b.more) (a.none.1 h.0) ∙ b.none.1 h.1),
  );
  so = All-append Q a.more b.more a.so b.so;
}

pub added_as : {X : Type 0} (Q : X → Type 0) (P R : Type 0) (old new : List X) → (P → R) → (R → P) → Adds Q P old new → Adds Q R old new
added_as Q P R old new there back a = record { more = a.more; behind = a.behind; none = ((λ e. there (a.none.0 e)), (λ r. a.none.1 (back r))); so = a.so }

all_so : {X : Type 0} (Q T : X → Type 0) (xs : List X) → ((x : X) → Q x → T x) → All Q xs → All T xs
all_so Q T [] h all = All-nil T
all_so Q T (x ∷ xs) h all = All-cons T x xs (h x (All-head Q x xs all)) (all_so Q T xs h (All-tail Q x xs all))

pub added_so : {X : Type 0} (Q T : X → Type 0) (P : Type 0) (old new : List X) → ((x : X) → Q x → T x) → Adds Q P old new → Adds T P old new
added_so Q T P old new h a = record { more = a.more; behind = a.behind; none = a.none; so = all_so Q T a.more h a.so }

-- ---- places of a list

pub all_each : {X : Type 0} (P : X → Type 0) (xs : List X) → All P xs → (k : ℕ) (x : X) → slice_get xs k ≡ Some x → P x
all_each P [] all k x e = absurd cc
all_each {X} P (y ∷ ys) all zero x e = let same : y ≡ x = cc in subst P same (All-head P y ys all)
all_each P (y ∷ ys) all (suc k) x e = all_each P ys (All-tail P y ys all) k x e

pub each_all : {X : Type 0} (P : X → Type 0) (xs : List X) → ((k : ℕ) (x : X) → slice_get xs k ≡ Some x → P x) → All P xs
each_all P [] each = All-nil P
each_all P (y ∷ ys) each = All-cons P y ys (each 0 y refl) (each_all P ys (λ k x e. each (suc k) x e))

pub inside : {X : Type 0} (xs : List X) (k : ℕ) (x : X) → slice_get xs k ≡ Some x → k < length xs
inside [] k x e = absurd cc
inside (y ∷ ys) zero x e = omega arith
inside (y ∷ ys) (suc k) x e = let h : k < length ys = inside ys k x e in omega arith

-- ---- files that are known

pub over_all : (steady : Bool) (known : Contents) (P : (List ℕ → Option (List ℕ)) → Type 0) → ((f : List ℕ → Option (List ℕ)) → P f) → OverFiles steady known P
over_all true (Some f) P h = h f
over_all true None P h = tt
over_all false known P h = tt

pub over_map : (steady : Bool) (known : Contents) (P R : (List ℕ → Option (List ℕ)) → Type 0) → ((f : List ℕ → Option (List ℕ)) → P f → R f) → OverFiles steady known P → OverFiles steady known R
over_map true (Some f) P R h p = h f p
over_map true None P R h p = tt
over_map false known P R h p = tt

pub over_both : (steady : Bool) (known : Contents) (P R T : (List ℕ → Option (List ℕ)) → Type 0) → ((f : List ℕ → Option (List ℕ)) → P f → R f → T f) → OverFiles steady known P
    → OverFiles steady known R → OverFiles steady known T
over_both true (Some f) P R T h p r = h f p r
over_both true None P R T h p r = tt
over_both false known P R T h p r = tt

-- ---- calls

pub on_ok : {X E : Type 0} (r : Result X E) (P Q : Type 0) → (P → Q) → OnOk r P → OnOk r Q
on_ok (Ok x) P Q h p = h p
on_ok (Err e) P Q h p = tt

-- what holds only where nothing is listed
pub some_listed : {X : Type 0} (P : Type 0) (xs : List X) (n : ℕ) (b : Bool) → n ≡ length xs → b ≡ (n == 0) → b ≡ false → (P → xs ≡ []) → ¬ P
some_listed P xs n b e is lacks back p =
    let z : n ≡ 0 = e ∙ ap length (back p) in
    true≢false (sym (ap (λ (m : ℕ). m == 0) z) ∙ sym is ∙ lacks)
