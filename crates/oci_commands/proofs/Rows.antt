-- Rows of rules, each once, and sections of kinds.
use Rattle.std.proofs.Common.{◌≡◌, ◌<◌, ◌≤◌, ◌+◌, ◌∙◌, ◌||◌, Bool, true, false, bytes_eq, ℕ, suc, List, [], ◌∷◌, ◌++◌, length, take, drop, map, get_or, refl, sym, ap, subst, append_assoc, arith, drop-cons}
use Rattle.std.proofs.lemmas.List.{drop_all, flat_map_more, get_or_default, take_all}
use Rattle.std.specs.List.{flat_map, list_any}
use Rattle.oci_rules.specs.Rules.{Rule}
use Rattle.oci_schemas.specs.declared.kind.Kind.{Kind}
use Rattle.oci_findings.proofs.Each.{map_both, one_more}
use Rattle.oci_commands.specs.Books.{with_section, has_rule, IsSection, Rows, Sections}
use Rattle.oci_commands.specs.RuleTexts.{IsRow, with_new}

rows_both : (rs qs : List Rule) (a b c : List (List ℕ)) → Rows rs a b → Rows qs b c → Rows (rs ++ qs) a c
rows_both [] qs a b c none more = subst (λ x. Rows qs x c) none more
rows_both (r ∷ rs) qs a b c (row, is, rest) more = (row, is, rows_both rs qs (with_new row a) b c rest more)

up_to : {X : Type 0} (xs : List X) (i : ℕ) (x : X) → i < length xs → x ≡ get_or xs i x → take (i + 1) xs ≡ take i xs ++ x ∷ []
up_to xs i x below same = let step : i + 1 ≡ suc i = omega arith in ap (λ n. take n xs) step ∙ one_more xs i x below same

-- the row of one rule more
pub row_more : {X : Type 0} (f : X → Rule) (xs : List X) (i : ℕ) (x : X) (row : List ℕ) (a b c : List (List ℕ)) → i < length xs → x ≡ get_or xs i x → Rows (map f (take i xs)) a b → IsRow (f x) row
    → c ≡ with_new row b → Rows (map f (take (i + 1) xs)) a c
row_more f xs i x row a b c below same before is made =
    subst (λ q. Rows (map f q) a c) (sym (up_to xs i x below same))
    (subst (λ q. Rows q a c) (sym (map_both f (take i xs) x)) (rows_both (map f (take i xs)) (f x ∷ []) a b c before (row, is, made)))

-- the same of an element as a loop has it
pub row_next : {X : Type 0} (f : X → Rule) (xs : List X) (i : ℕ) (d : X) (row : List ℕ) (a b c : List (List ℕ)) → i < length xs → Rows (map f (take i xs)) a b → IsRow (f (get_or xs i d)) row
    → c ≡ with_new row b → Rows (map f (take (i + 1) xs)) a c
row_next f xs i d row a b c below before is made = row_more f xs i (get_or xs i d) row a b c below (get_or_default xs i d (get_or xs i d) below) before is made

pub row_all : {X : Type 0} (f : X → Rule) (xs : List X) (i : ℕ) (a b : List (List ℕ)) → length xs ≤ i → Rows (map f (take i xs)) a b → Rows (map f xs) a b
row_all f xs i a b over h = subst (λ q. Rows (map f q) a b) (take_all i xs over) h

-- the rows of one book more
pub book_more : {X : Type 0} (f : X → List Rule) (xs : List X) (i : ℕ) (x : X) (a b c : List (List ℕ)) → i < length xs → x ≡ get_or xs i x → Rows (flat_map f (take i xs)) a b → Rows (f x) b c
    → Rows (flat_map f (take (i + 1) xs)) a c
book_more f xs i x a b c below same before more =
    subst (λ q. Rows (flat_map f q) a c) (sym (up_to xs i x below same))
    (subst (λ q. Rows q a c) (flat_map_more f [] (take i xs) x) (rows_both (flat_map f (take i xs)) (f x) a b c before more))

pub book_next : {X : Type 0} (f : X → List Rule) (xs : List X) (i : ℕ) (d : X) (a b c : List (List ℕ)) → i < length xs → Rows (flat_map f (take i xs)) a b → Rows (f (get_or xs i d)) b c
    → Rows (flat_map f (take (i + 1) xs)) a c
book_next f xs i d a b c below before more = book_more f xs i (get_or xs i d) a b c below (get_or_default xs i d (get_or xs i d) below) before more

pub book_all : {X : Type 0} (f : X → List Rule) (xs : List X) (i : ℕ) (a b : List (List ℕ)) → length xs ≤ i → Rows (flat_map f (take i xs)) a b → Rows (flat_map f xs) a b
book_all f xs i a b over h = subst (λ q. Rows (flat_map f q) a b) (take_all i xs over) h

-- texts that were told with_section from their strings
pub flat_of_map : {X : Type 0} (f : X → List ℕ) (xs : List X) → flat_map (λ row. row) (map f xs) ≡ flat_map f xs
flat_of_map f [] = refl
flat_of_map f (x ∷ xs) = ap (λ q. f x ++ q) (flat_of_map f xs)

-- one section more is before what is still to come
pub section_more : (books : Kind → List Rule) (kinds : List Kind) (i : ℕ) (kind : Kind) (now next after section : List ℕ) → i < length kinds → kind ≡ get_or kinds i kind → IsSection (books kind) section
    → next ≡ with_section now section → Sections books (drop (i + 1) kinds) next after → Sections books (drop i kinds) now after
section_more books kinds i kind now next after section below same is made rest =
    let step : i + 1 ≡ suc i = omega arith in
    let cut : drop i kinds ≡ kind ∷ drop (suc i) kinds = drop-cons kinds i kind below ∙ ap (λ k. k ∷ drop (suc i) kinds) (sym same) in
    subst (λ q. Sections books q now after) (sym cut)
    (section, is, subst (λ q. Sections books q (with_section now section) after) (ap (λ n. drop n kinds) step) (subst (λ q. Sections books (drop (i + 1) kinds) q after) made rest))

any_both : {X : Type 0} (p : X → Bool) (xs ys : List X) → list_any p (xs ++ ys) ≡ (list_any p xs || list_any p ys)
any_both p [] ys = refl
any_both p (x ∷ xs) ys = or_more (p x) (list_any p (xs ++ ys)) (list_any p xs) (list_any p ys) (any_both p xs ys)
  where
    or_more : (a b c d : Bool) → b ≡ (c || d) → (a || b) ≡ ((a || c) || d)
    or_more true b c d e = refl
    or_more false b c d e = e

module _ {X : Type 0} (f : X → List Rule) (name : List ℕ) (xs : List X) (i : ℕ) (x : X) (below : i < length xs) (same : x ≡ get_or xs i x) where
  cut_books : has_rule name (flat_map f (drop i xs)) ≡ (has_rule name (f x) || has_rule name (flat_map f (drop (i + 1) xs)))
  cut_books =
      let step : i + 1 ≡ suc i = omega arith in
      let cut : drop i xs ≡ x ∷ drop (suc i) xs = drop-cons xs i x below ∙ ap (λ k. k ∷ drop (suc i) xs) (sym same) in
      ap (λ q. has_rule name (flat_map f q)) cut ∙ any_both (λ r. bytes_eq r.name name) (f x) (flat_map f (drop (suc i) xs))
      ∙ ap (λ n. has_rule name (f x) || has_rule name (flat_map f (drop n xs))) (sym step)

  -- a book with the rule is among the books, and one without it is as none
  pub in_book : has_rule name (f x) ≡ true → has_rule name (flat_map f (drop i xs)) ≡ true
  in_book here = cut_books ∙ ap (λ b. b || has_rule name (flat_map f (drop (i + 1) xs))) here

  pub not_in_book : has_rule name (f x) ≡ false → has_rule name (flat_map f (drop i xs)) ≡ has_rule name (flat_map f (drop (i + 1) xs))
  not_in_book none = cut_books ∙ ap (λ b. b || has_rule name (flat_map f (drop (i + 1) xs))) none

pub section_next : (books : Kind → List Rule) (kinds : List Kind) (i : ℕ) (d : Kind) (now next after section : List ℕ) → i < length kinds → IsSection (books (get_or kinds i d)) section
    → next ≡ with_section now section → Sections books (drop (i + 1) kinds) next after → Sections books (drop i kinds) now after
section_next books kinds i d now next after section below is made rest =
    section_more books kinds i (get_or kinds i d) now next after section below (get_or_default kinds i d (get_or kinds i d) below) is made rest

pub sections_end : (books : Kind → List Rule) (kinds : List Kind) (i : ℕ) (now : List ℕ) → length kinds ≤ i → Sections books (drop i kinds) now now
sections_end books kinds i now over = subst (λ q. Sections books q now now) (sym (drop_all i kinds over)) refl

-- an element of which p does not hold is as none
pub none_here : {X : Type 0} (p : X → Bool) (xs : List X) (i : ℕ) (d : X) (b : Bool) → i < length xs → p (get_or xs i d) ≡ false → b ≡ list_any p (drop i xs) → b ≡ list_any p (drop (i + 1) xs)
none_here p xs i d b below isnt h =
    let step : i + 1 ≡ suc i = omega arith in
    h ∙ ap (list_any p) (drop-cons xs i d below) ∙ ap (λ y. y || list_any p (drop (suc i) xs)) isnt ∙ ap (λ n. list_any p (drop n xs)) (sym step)

-- four texts, tokens or others put behind some
pub four : {A : Type 0} (ts : List A) (a b c d : A) (t1 t2 t3 t4 : List A) → t1 ≡ ts ++ a ∷ [] → t2 ≡ t1 ++ b ∷ [] → t3 ≡ t2 ++ c ∷ [] → t4 ≡ t3 ++ d ∷ [] → t4 ≡ ts ++ a ∷ (b ∷ (c ∷ (d ∷ [])))
four ts a b c d t1 t2 t3 t4 e1 e2 e3 e4 = e4 ∙ ap (λ q. q ++ d ∷ []) (e3 ∙ ap (λ q. q ++ c ∷ []) (e2 ∙ ap (λ q. q ++ b ∷ []) e1)) ∙ simp append_assoc

-- five lists of tokens, each put behind what there is
pub five : {A : Type 0} (ts a b c d e t1 t2 t3 t4 t5 : List A) → t1 ≡ ts ++ a → t2 ≡ t1 ++ b → t3 ≡ t2 ++ c → t4 ≡ t3 ++ d → t5 ≡ t4 ++ e → t5 ≡ ts ++ (a ++ (b ++ (c ++ (d ++ e))))
five ts a b c d e t1 t2 t3 t4 t5 e1 e2 e3 e4 e5 = e5 ∙ ap (λ q. q ++ e) (e4 ∙ ap (λ q. q ++ d) (e3 ∙ ap (λ q. q ++ c) (e2 ∙ ap (λ q. q ++ b) e1))) ∙ simp append_assoc
