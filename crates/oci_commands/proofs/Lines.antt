-- What is written of each item, one behind the other.
use Rattle.std.proofs.Common.{◌≡◌, ◌<◌, ◌≤◌, ◌+◌, ℕ, suc, List, [], ◌∷◌, ◌++◌, Option, Some, None, length, take, map, get_or, refl, sym, ap, ◌∙◌, subst, arith}
use Rattle.std.specs.Io.KnownBytes.{Appends}
use Rattle.std.proofs.lemmas.List.{append_assoc, append-nil, get_or_default, take_all}
use Rattle.oci_content.specs.declared.algorithm.Algorithm.{Algorithm}
use Rattle.oci_commands.specs.Done.{AppendsEach}
use Rattle.oci_commands.specs.Texts.{IsFileLine, Joins}
use Rattle.oci_findings.proofs.Each.{one_more}

-- the line of a file that nothing changed
pub line_moved : (algorithm : Algorithm) (new old : List ℕ → Option (List ℕ)) (name line : List ℕ) → new ≡ old → IsFileLine algorithm (new name) name line → IsFileLine algorithm (old name) name line
line_moved algorithm new old name line same is = subst (λ holds. IsFileLine algorithm (holds name) name line) same is

-- the same of any line that says something of a file's bytes
pub known_moved : (Is : Option (List ℕ) → List ℕ → List ℕ → Type 0) (new old : List ℕ → Option (List ℕ)) (name line : List ℕ) → new ≡ old → Is (new name) name line → Is (old name) name line
known_moved Is new old name line same is = subst (λ holds. Is (holds name) name line) same is

appends_both : (old mid new : Option (List ℕ)) (a b : List ℕ) → Appends old mid a → Appends mid new b → Appends old new (a ++ b)
appends_both None mid new a b first next = tt
appends_both (Some xs) None new a b first next = absurd first
appends_both (Some xs) (Some ys) None a b first next = absurd next
appends_both (Some xs) (Some ys) (Some zs) a b first next = next ∙ ap (λ q. q ++ b) first ∙ append_assoc xs a b

none_appended : (known : Option (List ℕ)) → Appends known known []
none_appended None = tt
none_appended (Some xs) = sym (append-nil xs)

module _ {A : Type 0} (Is : A → List ℕ → Type 0) where
  joins_last : (xs : List A) (x : A) (text last : List ℕ) → Joins Is xs text → Is x last → Joins Is (xs ++ x ∷ []) (text ++ last)
  joins_last [] x text last none is = (last, [], ap (λ q. q ++ last) none ∙ sym (append-nil last), is, refl)
  joins_last (y ∷ ys) x text last (first, rest, whole, one, others) is =
      (first, rest ++ last, ap (λ q. q ++ last) whole ∙ append_assoc first rest last, one, joins_last ys x rest last others is)

  joins_more : (xs : List A) (i : ℕ) (d : A) (text last : List ℕ) → i < length xs → Joins Is (take i xs) text → Is (get_or xs i d) last → Joins Is (take (i + 1) xs) (text ++ last)
  joins_more xs i d text last below before is =
      let it = get_or xs i d in
      let step : i + 1 ≡ suc i = omega arith in
      let more : take (i + 1) xs ≡ take i xs ++ it ∷ [] = ap (λ n. take n xs) step ∙ one_more xs i it below (get_or_default xs i d it below) in
      subst (λ q. Joins Is q (text ++ last)) (sym more) (joins_last (take i xs) it text last before is)

  -- the same of a text that grows
  pub joined_more : (xs : List A) (i : ℕ) (x : A) (text last new : List ℕ) → i < length xs → x ≡ get_or xs i x → new ≡ text ++ last → Joins Is (take i xs) text → Is x last → Joins Is (take (i + 1) xs) new
  joined_more xs i x text last new below same made before is =
      subst (Joins Is (take (i + 1) xs)) (sym made) (joins_more xs i x text last below before (subst (λ y. Is y last) same is))

  -- the same of an element as a loop has it
  pub joined_next : (xs : List A) (i : ℕ) (d : A) (text last new : List ℕ) → i < length xs → new ≡ text ++ last → Joins Is (take i xs) text → Is (get_or xs i d) last → Joins Is (take (i + 1) xs) new
  joined_next xs i d text last new below made before is = subst (Joins Is (take (i + 1) xs)) (sym made) (joins_more xs i d text last below before is)

  pub joined_all : (xs : List A) (i : ℕ) (text : List ℕ) → length xs ≤ i → Joins Is (take i xs) text → Joins Is xs text
  joined_all xs i text over h = subst (λ q. Joins Is q text) (take_all i xs over) h

  -- nothing is written of no items
  pub appends_none : (xs : List A) (known : Option (List ℕ)) → AppendsEach Is (take 0 xs) known known
  appends_none xs known = ([], refl, none_appended known)

  -- one item more
  pub appends_more : (xs : List A) (i : ℕ) (d : A) (old mid new : Option (List ℕ)) → i < length xs → AppendsEach Is (take i xs) old mid
      → (last : List ℕ) × Is (get_or xs i d) last × Appends mid new last → AppendsEach Is (take (i + 1) xs) old new
  appends_more xs i d old mid new below (text, before, wrote) (last, is, next) =
      (text ++ last, joins_more xs i d text last below before is, appends_both old mid new text last wrote next)

  -- no item is left
  pub appends_all : (xs : List A) (i : ℕ) (old new : Option (List ℕ)) → length xs ≤ i → AppendsEach Is (take i xs) old new → AppendsEach Is xs old new
  appends_all xs i old new over h = subst (λ q. AppendsEach Is q old new) (take_all i xs over) h

-- what is written of things is written of what f makes of them
pub joins_map : {A B : Type 0} (Is : B → List ℕ → Type 0) (f : A → B) (xs : List A) (text : List ℕ) → Joins (λ x. Is (f x)) xs text → Joins Is (map f xs) text
joins_map Is f [] text none = none
joins_map Is f (x ∷ xs) text (first, rest, whole, one, others) = (first, rest, whole, one, joins_map Is f xs rest others)
