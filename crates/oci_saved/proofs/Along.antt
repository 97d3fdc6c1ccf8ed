-- Where links lead.
use Rattle.std.proofs.Common.{◌≡◌, ℕ, suc, ◌<◌, Bool, true, false, ◌&&◌, List, [], ◌∷◌, ◌++◌, length, get_or, drop, codes, Option, Some, None, option_map, refl, sym, ap, ◌∙◌, subst, drop-cons}
use Rattle.std.specs.Prelude.{not, if◌then◌else◌}
use Rattle.std.specs.List.{fold}
use Rattle.std.specs.Str.{IsUtf8, is_utf8}
use Rattle.std.proofs.lemmas.Str.{IsUtf8-from_is_utf8, is_utf8-from_IsUtf8}
use denote.Ref.{Bor}
use Rattle.tar_folder.specs.Parts.{texts_of}
use Rattle.tar_folder.specs.Paths.{is_absolute}
use Rattle.oci_saved.specs.Links.{IsTaken, after_part, names_along, path_by, target_of}

stays_out : (parts : List (List ℕ)) → fold after_part None parts ≡ None
stays_out [] = refl
stays_out (p ∷ ps) = stays_out ps

-- a part leads out, so the whole path does
pub out_there : (parts : List (Bor (List ℕ))) (i : ℕ) (d : Bor (List ℕ)) (taken : Bool) (names left : List (List ℕ)) (whole : Option (List (List ℕ))) → i < length parts
    → taken ≡ false → IsTaken taken (after_part (Some names) (get_or parts i d).now) left → fold after_part (Some names) (texts_of (drop i parts)) ≡ whole → None ≡ whole
out_there parts i d taken names left whole below lacks told is =
    let out : after_part (Some names) (get_or parts i d).now ≡ None = subst (λ b. IsTaken b (after_part (Some names) (get_or parts i d).now) left) lacks told in
    sym (stays_out (texts_of (drop (suc i) parts))) ∙ ap (λ (o : Option (List (List ℕ))). fold after_part o (texts_of (drop (suc i) parts))) (sym out)
    ∙ ap (λ (l : List (Bor (List ℕ))). fold after_part (Some names) (texts_of l)) (sym (drop-cons parts i d below)) ∙ is

-- ---- targets

pub no_text : (path link : List ℕ) → ¬ IsUtf8 link → ◌≡◌ {A = Option (List ℕ)} None (target_of path link)
no_text path link lacks = go (is_utf8 link) refl
  where
    go : (b : Bool) → is_utf8 link ≡ b → ◌≡◌ {A = Option (List ℕ)} None (if b && not (is_absolute link) then option_map path_by (names_along (path ++ (codes "/../" ++ link))) else None)
    go true e = absurd (lacks (IsUtf8-from_is_utf8 link e))
    go false e = refl

pub from_top : (path link : List ℕ) → IsUtf8 link → is_absolute link ≡ true → ◌≡◌ {A = Option (List ℕ)} None (target_of path link)
from_top path link text top =
    sym (ap (λ (b : Bool). if b && not (is_absolute link) then option_map path_by (names_along (path ++ (codes "/../" ++ link))) else None) (is_utf8-from_IsUtf8 link text)
    ∙ ap (λ (b : Bool). if not b then option_map path_by (names_along (path ++ (codes "/../" ++ link))) else None) top)

pub along : (path link way : List ℕ) → IsUtf8 link → is_absolute link ≡ false → way ≡ path ++ (codes "/../" ++ link) → option_map path_by (names_along way) ≡ target_of path link
along path link way text below same =
    ap (λ (w : List ℕ). option_map path_by (names_along w)) same
    ∙ sym (ap (λ (b : Bool). if b && not (is_absolute link) then option_map path_by (names_along (path ++ (codes "/../" ++ link))) else None) (is_utf8-from_IsUtf8 link text)
    ∙ ap (λ (b : Bool). if not b then option_map path_by (names_along (path ++ (codes "/../" ++ link))) else None) below)
