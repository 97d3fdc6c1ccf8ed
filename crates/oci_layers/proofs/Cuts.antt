-- A path is cut at its last slash.
use Rattle.std.proofs.Common.{◌≡◌, ◌≢◌, ℕ, suc, ◌<◌, List, [], ◌∷◌, ◌++◌, length, get_or, take, drop, Bool, true, false, ◌||◌, Some, None, ne_eqb, refl, sym, ap, ◌∙◌, take-append-drop, lit<, arith}
use Rattle.std.specs.Prelude.{◌==◌, if◌then◌else◌}
use Rattle.std.specs.Str.{NoCharPasses}
use Rattle.std.specs.Str.Pattern.{RFindsChar, HasCharAt}
use Rattle.std.proofs.lemmas.Str.Pattern.{NoCharPasses-char, drop_at_char}
use Rattle.oci_layers.specs.Tails.{has_slash, name_in, folder_in}

or_true : (b : Bool) → (b || true) ≡ true
or_true true = refl
or_true false = refl

or_right : (a b : Bool) → (a || b) ≡ false → b ≡ false
or_right true b e = absurd cc
or_right false b e = e

no_slash : (n : List ℕ) → ((k : ℕ) → k < length n → get_or n k 0 ≢ 47) → has_slash n ≡ false
no_slash [] h = refl
no_slash (b ∷ bs) h = ap (λ (t : Bool). t || has_slash bs) (ne_eqb b 47 (h 0 (omega arith))) ∙ no_slash bs (λ k less. h (suc k) (omega arith))

a_slash : (f n : List ℕ) → has_slash (f ++ 47 ∷ n) ≡ true
a_slash [] n = refl
a_slash (b ∷ f) n = ap (λ (t : Bool). (b == 47) || t) (a_slash f n) ∙ or_true (b == 47)

whole_name : (n : List ℕ) → has_slash n ≡ false → name_in n ≡ n
whole_name [] e = refl
whole_name (b ∷ bs) e = ap (λ (t : Bool). if t then name_in bs else b ∷ bs) e

no_folder : (n : List ℕ) → has_slash n ≡ false → folder_in n ≡ []
no_folder [] e = refl
no_folder (b ∷ bs) e = ap (λ (t : Bool). if t then b ∷ folder_in bs else []) (or_right (b == 47) (has_slash bs) e)

pub name_behind : (f n : List ℕ) → has_slash n ≡ false → name_in (f ++ 47 ∷ n) ≡ n
name_behind [] n e = whole_name n e
name_behind (b ∷ f) n e = ap (λ (t : Bool). if t then name_in (f ++ 47 ∷ n) else b ∷ f ++ 47 ∷ n) (a_slash (b ∷ f) n) ∙ name_behind f n e

pub folder_before : (f n : List ℕ) → has_slash n ≡ false → folder_in (f ++ 47 ∷ n) ≡ f
folder_before [] n e = ap (λ (t : Bool). if t then 47 ∷ folder_in n else []) e
folder_before (b ∷ f) n e = ap (λ (t : Bool). if t then b ∷ folder_in (f ++ 47 ∷ n) else []) (a_slash f n) ∙ ap (λ (l : List ℕ). b ∷ l) (folder_before f n e)

-- ---- what is found

lacks_slash : (n : List ℕ) → NoCharPasses (λ d. d == 47) n → has_slash n ≡ false
lacks_slash n w = no_slash n (λ k less. NoCharPasses-char 47 n k w (lit< tt) less)

parted : (path : List ℕ) (i j : ℕ) → HasCharAt 47 path i j → path ≡ take i path ++ 47 ∷ drop j path
parted path i j at = sym (take-append-drop i path) ∙ ap (λ (l : List ℕ). take i path ++ l) (drop_at_char 47 path i j at (lit< tt))

pub cut_folder : (path folder name : List ℕ) (i j : ℕ) → RFindsChar 47 path (Some (i, j)) → folder ≡ take i path → name ≡ drop j path → folder ≡ folder_in path
cut_folder path folder name i j (lacks, at) f n = f ∙ sym (ap folder_in (parted path i j at) ∙ folder_before (take i path) (drop j path) (lacks_slash (drop j path) lacks))

pub cut_name : (path folder name : List ℕ) (i j : ℕ) → RFindsChar 47 path (Some (i, j)) → folder ≡ take i path → name ≡ drop j path → name ≡ name_in path
cut_name path folder name i j (lacks, at) f n = n ∙ sym (ap name_in (parted path i j at) ∙ name_behind (take i path) (drop j path) (lacks_slash (drop j path) lacks))

pub uncut_folder : (path : List ℕ) → RFindsChar 47 path None → [] ≡ folder_in path
uncut_folder path lacks = sym (no_folder path (lacks_slash path lacks))

pub uncut_name : (path : List ℕ) → RFindsChar 47 path None → path ≡ name_in path
uncut_name path lacks = sym (whole_name path (lacks_slash path lacks))
