-- Texts and places, each once.
use Rattle.std.proofs.Common.{◌≡◌, ◌<◌, ◌≤◌, ◌+◌, ◌∙◌, Bool, true, false, ℕ, suc, List, [], ◌∷◌, ◌++◌, length, take, drop, map, get_or, refl, sym, ap, subst, append_assoc, arith, drop-cons}
use Rattle.std.specs.Prelude.{codes, Some, if◌then◌else◌}
use Rattle.std.specs.List.{AllZip, flat_map}
use Rattle.std.proofs.lemmas.List.{append-nil, drop_all, get_or_default, take-append-le}
use Rattle.oci_findings.proofs.Each.{map_both, one_more}
use Rattle.oci_base.specs.Names.{is_listed}
use Rattle.oci_rules.specs.Rules.{Rule}
use Rattle.oci_schemas.specs.declared.kind.Kind.{Kind}
use Rattle.json.specs.Token.{Token, begin_object, end_object}
use Rattle.oci_rules.specs.Words.{level_named}
use Rattle.oci_schemas.specs.Kinds.{kind_of}
use Rattle.oci_commands.specs.Objects.{line_of}
use Rattle.oci_commands.specs.RuleTexts.{IsRuleObject, each_once, firsts, named, place_text, platform_word, texts_member, with_new, words_tokens}
use Rattle.oci_commands.specs.Tables.{each_place, with_place}
use Rattle.oci_commands.specs.Texts.{Joins}

-- some texts, and others
pub each_once_both : (before xs ys : List (List ℕ)) → each_once before (xs ++ ys) ≡ each_once (each_once before xs) ys
each_once_both before [] ys = refl
each_once_both before (x ∷ xs) ys = each_once_both (with_new x before) xs ys

pub each_place_both : (before xs ys : List ℕ) → each_place before (xs ++ ys) ≡ each_place (each_place before xs) ys
each_place_both before [] ys = refl
each_place_both before (x ∷ xs) ys = each_place_both (with_place x before) xs ys

-- the texts of one thing more of some, that h makes
pub once_next : {X Y : Type 0} (f : Y → List (List ℕ)) (h : X → Y) (xs : List X) (i : ℕ) (d : X) (before new all : List (List ℕ)) → i < length xs → new ≡ each_once before (f (h (get_or xs i d)))
    → each_once before (flat_map f (map h (drop i xs))) ≡ all → each_once new (flat_map f (map h (drop (i + 1) xs))) ≡ all
once_next f h xs i d before new all below made whole =
    let x = h (get_or xs i d) in
    let step : i + 1 ≡ suc i = omega arith in
    let rest = flat_map f (map h (drop (i + 1) xs)) in
    let cut : flat_map f (map h (drop i xs)) ≡ f x ++ rest = ap (λ l. flat_map f (map h l)) (drop-cons xs i d below) ∙ ap (λ n. f x ++ flat_map f (map h (drop n xs))) (sym step) in
    ap (λ l. each_once l rest) made ∙ sym (each_once_both before (f x) rest) ∙ ap (each_once before) (sym cut) ∙ whole

-- places are added behind those that there are
placed : (place : ℕ) (places : List ℕ) (there : Bool) → (more : List ℕ) × ((if there then places else places ++ place ∷ []) ≡ places ++ more)
placed place places true = ([], sym (append-nil places))
placed place places false = (place ∷ [], refl)

pub each_place_more : (before ps : List ℕ) → (more : List ℕ) × (each_place before ps ≡ before ++ more)
each_place_more before [] = ([], sym (append-nil before))
each_place_more before (p ∷ ps) =
    let (first, made) = placed p before _ in
    let (rest, all) = each_place_more (with_place p before) ps in
    (first ++ rest, all ∙ ap (λ q. q ++ rest) made ∙ append_assoc before first rest)

-- one more of each
pub zip_last : {A B : Type 0} (R : A → B → Type 0) (xs : List A) (ys : List B) (x : A) (y : B) → AllZip R xs ys → R x y → AllZip R (xs ++ x ∷ []) (ys ++ y ∷ [])
zip_last R [] [] x y none is = (is, tt)
zip_last R [] (z ∷ zs) x y none is = absurd none
zip_last R (w ∷ ws) [] x y none is = absurd none
zip_last R (w ∷ ws) (z ∷ zs) x y (first, rest) is = (first, zip_last R ws zs x y rest is)

-- one more of the first ones
pub zip_next : {X A B : Type 0} (R : A → B → Type 0) (f : X → A) (xs : List X) (i : ℕ) (d : X) (ys new : List B) (y : B) → i < length xs → new ≡ ys ++ y ∷ []
    → AllZip R (map f (take i xs)) ys → R (f (get_or xs i d)) y → AllZip R (map f (take (i + 1) xs)) new
zip_next R f xs i d ys new y below made before is =
    let x = get_or xs i d in
    let step : i + 1 ≡ suc i = omega arith in
    let more : take (i + 1) xs ≡ take i xs ++ x ∷ [] = ap (λ n. take n xs) step ∙ one_more xs i x below (get_or_default xs i d x below) in
    subst (AllZip R (map f (take (i + 1) xs))) (sym made)
    (subst (λ q. AllZip R (map f q) (ys ++ y ∷ [])) (sym more) (subst (λ q. AllZip R q (ys ++ y ∷ [])) (sym (map_both f (take i xs) x)) (zip_last R (map f (take i xs)) ys (f x) y before is)))

-- the same of places, of which more have come
pub zip_place : {B : Type 0} (R : ℕ → B → Type 0) (places more new : List ℕ) (i : ℕ) (ys : List B) (y : B) → i < length places → new ≡ places ++ more
    → AllZip R (take i places) ys → R (get_or places i 0) y → AllZip R (take (i + 1) new) (ys ++ y ∷ [])
zip_place R places more new i ys y below made before is =
    let x = get_or places i 0 in
    let step : i + 1 ≡ suc i = omega arith in
    let upto : i + 1 ≤ length places = omega arith in
    let first : take (i + 1) new ≡ take i places ++ x ∷ [] = ap (take (i + 1)) made ∙ take-append-le (i + 1) places more upto ∙ ap (λ n. take n places) step ∙ one_more places i x below (get_or_default places i 0 x below) in
    subst (λ q. AllZip R q (ys ++ y ∷ [])) (sym first) (zip_last R (take i places) ys x y before is)

-- ---- the first rule of each name

module _ (kind : Kind) (all : List Rule) where
  -- a name that is not known is known from then on
  first_more : (names : List (List ℕ)) (r : Rule) (rs : List Rule) (line rest : List ℕ) → is_listed names r.name ≡ false → IsRuleObject kind all r line
      → Joins (IsRuleObject kind all) (firsts (names ++ r.name ∷ []) rs) rest → Joins (IsRuleObject kind all) (firsts names (r ∷ rs)) (line ++ rest)
  first_more names r rs line rest new is others =
      subst (λ (b : Bool). Joins (IsRuleObject kind all) (if b then firsts names rs else r ∷ firsts (names ++ r.name ∷ []) rs) (line ++ rest)) (sym new) (line, rest, refl, is, others)

  -- none is met before the first
  pub first_begun : {X Y : Type 0} (name : Y → List ℕ) (h : X → Rule) (names : List Y) (xs ys : List X) (text rest : List ℕ) → names ≡ [] → xs ≡ ys → text ≡ []
      → Joins (IsRuleObject kind all) (firsts (map name names) (map h xs)) rest → Joins (IsRuleObject kind all) (firsts [] (map h ys)) (text ++ rest)
  first_begun name h names xs ys text rest none same empty more =
      subst (λ q. Joins (IsRuleObject kind all) (firsts [] (map h ys)) (q ++ rest)) (sym empty)
      (subst (λ q. Joins (IsRuleObject kind all) (firsts [] (map h q)) rest) same (subst (λ q. Joins (IsRuleObject kind all) (firsts (map name q) (map h xs)) rest) none more))

  -- none is left
  pub first_all : {X : Type 0} (h : X → Rule) (names : List (List ℕ)) (xs : List X) (i : ℕ) (text : List ℕ) → length xs ≤ i
      → ((rest : List ℕ) → Joins (IsRuleObject kind all) (firsts names (map h (drop i xs))) rest → Joins (IsRuleObject kind all) (firsts [] all) (text ++ rest))
      → Joins (IsRuleObject kind all) (firsts [] all) text
  first_all h names xs i text over before =
      subst (Joins (IsRuleObject kind all) (firsts [] all)) (append-nil text)
      (before [] (subst (λ q. Joins (IsRuleObject kind all) (firsts names (map h q)) []) (sym (drop_all i xs over)) refl))

  -- the same of the names that a loop has met
  pub first_next : {X Y : Type 0} (name : Y → List ℕ) (h : X → Rule) (names more : List Y) (n : Y) (xs : List X) (i : ℕ) (d : X) (text new line rest : List ℕ) → i < length xs
      → is_listed (map name names) (h (get_or xs i d)).name ≡ false → name n ≡ (h (get_or xs i d)).name → more ≡ names ++ n ∷ [] → new ≡ text ++ line → IsRuleObject kind all (h (get_or xs i d)) line
      → ((rest : List ℕ) → Joins (IsRuleObject kind all) (firsts (map name names) (map h (drop i xs))) rest → Joins (IsRuleObject kind all) (firsts [] all) (text ++ rest))
      → Joins (IsRuleObject kind all) (firsts (map name more) (map h (drop (i + 1) xs))) rest → Joins (IsRuleObject kind all) (firsts [] all) (new ++ rest)
  first_next name h names more n xs i d text new line rest below unknown same added made is before others =
      let r = h (get_or xs i d) in
      let step : i + 1 ≡ suc i = omega arith in
      let tail = map h (drop (i + 1) xs) in
      let cut : map h (drop i xs) ≡ r ∷ tail = ap (map h) (drop-cons xs i d below) ∙ ap (λ n. r ∷ map h (drop n xs)) (sym step) in
      let known : map name more ≡ map name names ++ r.name ∷ [] = ap (map name) added ∙ map_both name names n ∙ ap (λ q. map name names ++ q ∷ []) same in
      let here : Joins (IsRuleObject kind all) (firsts (map name names) (map h (drop i xs))) (line ++ rest) =
      subst (λ q. Joins (IsRuleObject kind all) (firsts (map name names) q) (line ++ rest)) (sym cut)
      (first_more (map name names) r tail line rest unknown is (subst (λ q. Joins (IsRuleObject kind all) (firsts q tail) rest) known others)) in
      subst (Joins (IsRuleObject kind all) (firsts [] all)) (sym (ap (λ q. q ++ rest) made ∙ append_assoc text line rest)) (before (line ++ rest) here)

  first_known : (names : List (List ℕ)) (r : Rule) (rs : List Rule) (rest : List ℕ) → is_listed names r.name ≡ true → Joins (IsRuleObject kind all) (firsts names rs) rest
      → Joins (IsRuleObject kind all) (firsts names (r ∷ rs)) rest
  first_known names r rs rest known others =
      subst (λ (b : Bool). Joins (IsRuleObject kind all) (if b then firsts names rs else r ∷ firsts (names ++ r.name ∷ []) rs) rest) (sym known) others

  -- a rule of a known name is passed over
  pub first_over : {X : Type 0} (h : X → Rule) (names : List (List ℕ)) (xs : List X) (i : ℕ) (d : X) (rest : List ℕ) → i < length xs → is_listed names (h (get_or xs i d)).name ≡ true
      → Joins (IsRuleObject kind all) (firsts names (map h (drop (i + 1) xs))) rest → Joins (IsRuleObject kind all) (firsts names (map h (drop i xs))) rest
  first_over h names xs i d rest below known others =
      let r = h (get_or xs i d) in
      let step : i + 1 ≡ suc i = omega arith in
      let tail = map h (drop (i + 1) xs) in
      let cut : map h (drop i xs) ≡ r ∷ tail = ap (map h) (drop-cons xs i d below) ∙ ap (λ n. r ∷ map h (drop n xs)) (sym step) in
      subst (λ q. Joins (IsRuleObject kind all) (firsts names q) rest) (sym cut) (first_known names r tail rest known others)

-- the line of a rule, whose tokens are put behind what there is
module _ (kind : Kind) (all same : List Rule) (r : Rule) (word level wanted line : List ℕ) (places platforms : List (List ℕ)) (t0 t1 t2 t3 : List Token) where
  whole_tokens : t0 ≡ begin_object ∷ [] → t1 ≡ t0 ++ words_tokens r word level wanted → t2 ≡ t1 ++ texts_member (codes "places") places → t3 ≡ t2 ++ texts_member (codes "platforms") platforms
      → t3 ++ end_object ∷ [] ≡ begin_object ∷ [] ++ words_tokens r word level wanted ++ texts_member (codes "places") places ++ texts_member (codes "platforms") platforms ++ end_object ∷ []
  whole_tokens e0 e1 e2 e3 =
      let wt = words_tokens r word level wanted in
      let pt = texts_member (codes "places") places in
      let ft = texts_member (codes "platforms") platforms in
      ap (λ q. q ++ end_object ∷ []) (e3 ∙ ap (λ q. q ++ ft) (e2 ∙ ap (λ q. q ++ pt) (e1 ∙ ap (λ q. q ++ wt) e0)))

  pub object_line : kind_of word ≡ Some kind → level_named level ≡ Some r.level → same ≡ named r.name all → places ≡ each_once [] (map (λ q. place_text q.place) same)
      → platforms ≡ each_once [] (flat_map (λ q. map platform_word q.platforms) same) → t0 ≡ begin_object ∷ [] → t1 ≡ t0 ++ words_tokens r word level wanted
      → t2 ≡ t1 ++ texts_member (codes "places") places → t3 ≡ t2 ++ texts_member (codes "platforms") platforms → line ≡ line_of (t3 ++ end_object ∷ []) → IsRuleObject kind all r line
  object_line of_kind of_level e_same e_places e_platforms e0 e1 e2 e3 made =
      let wt = words_tokens r word level wanted in
      let P = λ (q : List Rule). each_once [] (map (λ x. place_text x.place) q) in
      let F = λ (q : List Rule). each_once [] (flat_map (λ x. map platform_word x.platforms) q) in
      let tokens = λ (ps fs : List (List ℕ)). begin_object ∷ [] ++ wt ++ texts_member (codes "places") ps ++ texts_member (codes "platforms") fs ++ end_object ∷ [] in
      let right : tokens places platforms ≡ tokens (P (named r.name all)) (F (named r.name all)) =
      ap (λ ps. tokens ps platforms) (e_places ∙ ap P e_same) ∙ ap (tokens (P (named r.name all))) (e_platforms ∙ ap F e_same) in
      (word, level, wanted, of_kind, of_level, made ∙ ap line_of (whole_tokens e0 e1 e2 e3 ∙ right))
