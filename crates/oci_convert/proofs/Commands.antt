-- Arguments and environments that are put together.
use Rattle.std.proofs.Common.{◌≡◌, ℕ, suc, List, [], ◌∷◌, ◌++◌, true, false, Option, Some, Vec, String, Global, length, map, string_bytes, sym, ap, ◌∙◌, subst, ne_eqb, arith, Result, Ok, Err, IfErr}
use Rattle.std.specs.Prelude.{◌==◌, filter, not, IsErrAnd}
use Rattle.oci_convert.specs.Texts.{texts_of, list_of}
use Rattle.oci_convert.specs.Verbatim.{arguments, environment, sets}

abbrev pub Texts : Type 0
Texts = Option (Vec (String Global) Global)

-- two lists behind an empty one
pub both_lists : (a b x y : Texts) (none first all : List (String Global)) → none ≡ [] → x ≡ a → y ≡ b → map string_bytes first ≡ map string_bytes none ++ texts_of x → map string_bytes all ≡ map string_bytes first ++ texts_of y
    → map string_bytes all ≡ texts_of a ++ texts_of b
both_lists a b x y none first all e f g h k =
    k ∙ ap (λ (t : List (List ℕ)). t ++ texts_of y) (h ∙ ap (λ (t : List (String Global)). map string_bytes t ++ texts_of x) e) ∙ ap (λ (t : Texts). texts_of t ++ texts_of y) f ∙ ap (λ (t : Texts). texts_of a ++ texts_of t) g

pub not_zero : (n : ℕ) → (suc n == 0) ≡ false
not_zero n = ne_eqb (suc n) 0 (λ (e : suc n ≡ 0). omega arith)

pub no_arguments : (all : List (String Global)) (args : List (List ℕ)) (before : Option (List (List ℕ))) → map string_bytes all ≡ args → (length all == 0) ≡ true → before ≡ arguments args before
no_arguments [] args before e h = ap (λ (t : List (List ℕ)). arguments t before) e
no_arguments (x ∷ all) args before e h = let clash : true ≡ false = sym h ∙ not_zero (length all) in cc clash

pub some_arguments : (all : List (String Global)) (args : List (List ℕ)) (before : Option (List (List ℕ))) → map string_bytes all ≡ args → (length all == 0) ≡ false → Some (map string_bytes all) ≡ arguments args before
some_arguments [] args before e h = cc h
some_arguments (x ∷ all) args before e h = ap (λ (t : List (List ℕ)). arguments t before) e

-- an environment of the image, and what was there
pub some_environment : (image before was : Texts) (list : Vec (String Global) Global) (all : List (String Global)) → image ≡ Some list → was ≡ before
    → map string_bytes all ≡ filter (λ e. not (sets (map string_bytes list.items) e)) (texts_of was) ++ map string_bytes list.items → Some (map string_bytes all) ≡ environment (list_of image) (list_of before)
some_environment image before was list all is same h =
    ap Some (h ∙ ap (λ (t : Texts). filter (λ e. not (sets (map string_bytes list.items) e)) (texts_of t) ++ map string_bytes list.items) same)
    ∙ ap (λ (t : Texts). environment (list_of t) (list_of before)) (sym is)

-- an error that is passed on
pub passed_on : {T E : Type 0} (r : Result T E) (x : E) (P : E → Type 0) → IsErrAnd r (λ e. e ≡ x) → P x → IfErr r P
passed_on (Ok y) x P h p = tt
passed_on (Err y) x P h p = subst P (sym h) p
