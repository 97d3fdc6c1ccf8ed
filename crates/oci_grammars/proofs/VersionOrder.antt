-- The order of versions, identifier by identifier.
use Rattle.std.proofs.Common.{◌≡◌, ◌≢◌, ℕ, ◌||◌, not, Bool, true, false, List, [], ◌∷◌, refl, sym, ap, ◌∙◌, true≢false}
use Rattle.std.specs.Prelude.{◌==◌}
use Rattle.std.specs.Bool.{Decides}
use Rattle.std.specs.Cmp.Lexicographic.{slice_cmp}
use Rattle.std.specs.List.{slice_split}
use Rattle.std.specs.Ordering.{is_gt, ordering_then}
use Rattle.std.specs.declared.cmp.Ordering.{Ordering}
use Rattle.std.specs.declared.cmp.Ordering.TheVariants.{Less, Equal, Greater}
use Rattle.std.proofs.lemmas.Bool.Decides.{Decides-at, Decides-not}
use Rattle.oci_base.specs.Classes.{dot, has, until, after}
use Rattle.oci_base.proofs.Marks.{lacks_not_has, not_cut}
use Rattle.oci_grammars.specs.Decided.{is_semver}
use Rattle.oci_grammars.specs.DecidedPrecedence.{are_in_order}
use Rattle.oci_grammars.specs.Precedence.{identifier_cmp, parts_cmp, precedence_cmp, AreInOrder}
use Rattle.oci_grammars.specs.Versions.{IsSemver}
use Rattle.oci_grammars.proofs.LicenseLists.{then_tells}
use Rattle.oci_grammars.proofs.Splits.{split_none}
use Rattle.oci_grammars.proofs.Taken.{split_first}
use Rattle.oci_grammars.proofs.VersionGrammars.{semver}

greater_tells : (o : Ordering) → Decides (is_gt o) (o ≡ Greater)
greater_tells Less = ((λ e. absurd (true≢false (sym e))), (λ h. cc h))
greater_tells Equal = ((λ e. absurd (true≢false (sym e))), (λ h. cc h))
greater_tells Greater = ((λ e. refl), (λ h. refl))

pub in_order_decides : (a b : List ℕ) → Decides (are_in_order a b) (AreInOrder a b)
unfolding are_in_order
in_order_decides a b =
    then_tells (is_semver a) (not (is_semver b) || not (is_gt (precedence_cmp a b))) (IsSemver a) (IsSemver b → precedence_cmp a b ≢ Greater) (semver a)
    (then_tells (is_semver b) (not (is_gt (precedence_cmp a b))) (IsSemver b) (precedence_cmp a b ≢ Greater) (semver b)
    (Decides-not (is_gt (precedence_cmp a b)) (greater_tells (precedence_cmp a b))))

pub in_order_by : (first second a b : List ℕ) (p q r : Bool) (o : Ordering) → a ≡ first → b ≡ second → p ≡ is_semver a → q ≡ is_semver b → o ≡ precedence_cmp a b → r ≡ is_gt o
    → Decides (not p || (not q || not r)) (AreInOrder first second)
unfolding are_in_order
in_order_by first second a b p q r o e f h k m n =
    let one : p ≡ is_semver first = h ∙ ap is_semver e in
    let other : q ≡ is_semver second = k ∙ ap is_semver f in
    let higher : r ≡ is_gt (precedence_cmp first second) = n ∙ ap is_gt (m ∙ ap (λ z. precedence_cmp z b) e ∙ ap (precedence_cmp first) f) in
    Decides-at (not p || (not q || not r)) (are_in_order first second)
    (ap (λ z. not z || (not q || not r)) one ∙ ap (λ z. not (is_semver first) || (not z || not r)) other
    ∙ ap (λ z. not (is_semver first) || (not (is_semver second) || not z)) higher) (in_order_decides first second)

abbrev split : List ℕ → List (List ℕ)
split t = slice_split (λ c. c == dot) t

-- both go on
both_go_on : (a b : List ℕ) → has dot a ≡ true → has dot b ≡ true
    → parts_cmp a b ≡ ordering_then (identifier_cmp (until dot a) (until dot b)) (parts_cmp (after dot a) (after dot b))
both_go_on a b h k =
    ap (λ z. slice_cmp identifier_cmp z (split b)) (split_first dot a h) ∙ ap (λ z. slice_cmp identifier_cmp (until dot a ∷ split (after dot a)) z) (split_first dot b k)

pub next_parts : (a b : List ℕ) → has dot a ≡ true → has dot b ≡ true → identifier_cmp (until dot a) (until dot b) ≡ Equal
    → parts_cmp a b ≡ parts_cmp (after dot a) (after dot b)
next_parts a b h k e = both_go_on a b h k ∙ ap (λ o. ordering_then o (parts_cmp (after dot a) (after dot b))) e

then_other : (o p : Ordering) → o ≢ Equal → ordering_then o p ≡ o
then_other Less p n = refl
then_other Equal p n = absurd (n refl)
then_other Greater p n = refl

pub first_differs : (a b : List ℕ) → has dot a ≡ true → has dot b ≡ true → identifier_cmp (until dot a) (until dot b) ≢ Equal
    → parts_cmp a b ≡ identifier_cmp (until dot a) (until dot b)
first_differs a b h k n = both_go_on a b h k ∙ then_other (identifier_cmp (until dot a) (until dot b)) (parts_cmp (after dot a) (after dot b)) n

-- ---- one alone

alone : (t : List ℕ) → has dot t ≡ false → split t ≡ until dot t ∷ []
alone t h =
    let free = lacks_not_has dot t h in
    split_none dot t free ∙ ap (λ z. z ∷ []) (sym (not_cut dot t free).0)

-- what is split has a part
some_part : (t : List ℕ) → split t ≢ []
some_part t = go (has dot t) refl
  where
    go : (d : Bool) → has dot t ≡ d → split t ≢ []
    go true h e = let clash : until dot t ∷ split (after dot t) ≡ [] = sym (split_first dot t h) ∙ e in cc clash
    go false h e = let clash : until dot t ∷ [] ≡ [] = sym (alone t h) ∙ e in cc clash

above_none : (xs : List (List ℕ)) → xs ≢ [] → slice_cmp identifier_cmp xs [] ≡ Greater
above_none [] n = absurd (n refl)
above_none (x ∷ xs) n = refl

below_some : (xs : List (List ℕ)) → xs ≢ [] → slice_cmp identifier_cmp [] xs ≡ Less
below_some [] n = absurd (n refl)
below_some (x ∷ xs) n = refl

pub more_first : (a b : List ℕ) → has dot a ≡ true → has dot b ≡ false → parts_cmp a b ≡ ordering_then (identifier_cmp (until dot a) (until dot b)) Greater
more_first a b h k =
    ap (λ z. slice_cmp identifier_cmp z (split b)) (split_first dot a h) ∙ ap (λ z. slice_cmp identifier_cmp (until dot a ∷ split (after dot a)) z) (alone b k)
    ∙ ap (ordering_then (identifier_cmp (until dot a) (until dot b))) (above_none (split (after dot a)) (some_part (after dot a)))

pub more_second : (a b : List ℕ) → has dot a ≡ false → has dot b ≡ true → parts_cmp a b ≡ ordering_then (identifier_cmp (until dot a) (until dot b)) Less
more_second a b h k =
    ap (λ z. slice_cmp identifier_cmp z (split b)) (alone a h) ∙ ap (λ z. slice_cmp identifier_cmp (until dot a ∷ []) z) (split_first dot b k)
    ∙ ap (ordering_then (identifier_cmp (until dot a) (until dot b))) (below_some (split (after dot b)) (some_part (after dot b)))

then_equal : (o : Ordering) → ordering_then o Equal ≡ o
then_equal Less = refl
then_equal Equal = refl
then_equal Greater = refl

pub one_each : (a b : List ℕ) → has dot a ≡ false → has dot b ≡ false → parts_cmp a b ≡ identifier_cmp (until dot a) (until dot b)
one_each a b h k =
    ap (λ z. slice_cmp identifier_cmp z (split b)) (alone a h) ∙ ap (λ z. slice_cmp identifier_cmp (until dot a ∷ []) z) (alone b k)
    ∙ then_equal (identifier_cmp (until dot a) (until dot b))
