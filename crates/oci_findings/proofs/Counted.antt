-- Findings that are made of what breaks rules.
use Rattle.std.proofs.Common.{◌≡◌, ◌<◌, ◌+◌, ℕ, suc, Bool, true, false, List, [], ◌∷◌, ◌++◌, Some, length, take, map, get_or, refl, sym, ap, ◌∙◌, arith}
use Rattle.std.specs.Prelude.{◌↔◌}
use Rattle.std.specs.Borrow.{Bor}
use Rattle.std.specs.List.{filter, flat_map}
use Rattle.std.proofs.lemmas.List.{append_assoc, append-nil, get_or_default, map-append}
use Rattle.std.proofs.lemmas.List.Concat.{flat_map-append}
use Rattle.std.proofs.lemmas.List.Elements.{filter-append}
use Rattle.serde_json.specs.Data.{Data}
use Rattle.oci_schema.specs.Unknown.{Report}
use Rattle.oci_rules.specs.Breaks.{Told}
use Rattle.oci_rules.specs.Listed.{all_broken, when, told_of}
use Rattle.oci_rules.specs.Platforms.{is_for}
use Rattle.oci_rules.specs.Rules as rules
use Rattle.oci_rules.specs.Tables.{told, rule_of}
use Rattle.oci_rules.specs.declared.rule.Broken.{Broken}
use Rattle.oci_rules.specs.declared.rule.Rule.{Rule}
use Rattle.oci_findings.specs.declared.finding.Finding.{Finding}
use Rattle.oci_findings.specs.Findings.{breach}
use Rattle.oci_findings.proofs.Each.{one_more, map_both}

-- ---- one rule's parts

counted_more : (c : Told → Bool) (bs : List Broken) (i : ℕ) (b : Broken) → i < length bs → b ≡ get_or bs i b
    → filter c (map told (take (i + 1) bs)) ≡ filter c (map told (take i bs)) ++ filter c (told b ∷ [])
counted_more c bs i b lt is =
    let step : i + 1 ≡ suc i = omega arith in
    ap (λ n. filter c (map told (take n bs))) step ∙ ap (λ q. filter c (map told q)) (one_more bs i b lt is) ∙ ap (filter c) (map_both told (take i bs) b)
    ∙ filter-append c (map told (take i bs)) (told b ∷ [])

kept_one : (c : Told → Bool) (t : Told) → c t ≡ true → filter c (t ∷ []) ≡ t ∷ []
kept_one c t is = rw is refl

passed_one : (c : Told → Bool) (t : Told) → c t ≡ false → filter c (t ∷ []) ≡ []
passed_one c t is = rw is refl

pub one_kept : (c : Told → Bool) (new fs base : List Finding) (bs : List Broken) (i : ℕ) (b : Broken) → i < length bs → b ≡ get_or bs i b → c (told b) ≡ true → map breach new ≡ map breach fs ++ Some (told b) ∷ []
    → map breach fs ≡ map breach base ++ map Some (filter c (map told (take i bs)))
    → map breach new ≡ map breach base ++ map Some (filter c (map told (take (i + 1) bs)))
one_kept c new fs base bs i b lt is counts says before =
    let more : filter c (map told (take (i + 1) bs)) ≡ filter c (map told (take i bs)) ++ told b ∷ [] = counted_more c bs i b lt is ∙ ap (λ q. filter c (map told (take i bs)) ++ q) (kept_one c (told b) counts) in
    says ∙ ap (λ q. q ++ Some (told b) ∷ []) before ∙ append_assoc (map breach base) (map Some (filter c (map told (take i bs)))) (Some (told b) ∷ [])
    ∙ ap (λ q. map breach base ++ q) (sym (map_both Some (filter c (map told (take i bs))) (told b)))
    ∙ ap (λ q. map breach base ++ map Some q) (sym more)

pub one_passed : (c : Told → Bool) (fs base : List Finding) (bs : List Broken) (i : ℕ) (b : Broken) → i < length bs → b ≡ get_or bs i b → c (told b) ≡ false
    → map breach fs ≡ map breach base ++ map Some (filter c (map told (take i bs)))
    → map breach fs ≡ map breach base ++ map Some (filter c (map told (take (i + 1) bs)))
one_passed c fs base bs i b lt is counts before =
    let more : filter c (map told (take (i + 1) bs)) ≡ filter c (map told (take i bs)) = counted_more c bs i b lt is ∙ ap (λ q. filter c (map told (take i bs)) ++ q) (passed_one c (told b) counts) ∙ append-nil (filter c (map told (take i bs))) in
    before ∙ ap (λ q. map breach base ++ map Some q) (sym more)

-- ---- books

all_of_both : (xs ys : List rules.Rule) (p : rules.Platform) (d : Data) → all_broken (xs ++ ys) p d ≡ all_broken xs p d ++ all_broken ys p d
all_of_both [] ys p d = refl
all_of_both (x ∷ xs) ys p d = ap (λ q. when (is_for p x.platforms) (told_of x d) ++ q) (all_of_both xs ys p d) ∙ sym (append_assoc (when (is_for p x.platforms) (told_of x d)) (all_broken xs p d) (all_broken ys p d))

abbrev pub rules_in : Bor (List Rule) → List rules.Rule
rules_in b = map rule_of b.now

pub book_more : (c : Told → Bool) (p : rules.Platform) (d : Data) (new fs : List Finding) (books : List (Bor (List Rule))) (i : ℕ) (b : Bor (List Rule)) (listed : List Broken) → i < length books
    → map told listed ≡ all_broken (rules_in (get_or books i b)) p d → map breach new ≡ map breach fs ++ map Some (filter c (map told listed))
    → map breach fs ≡ map Some (filter c (all_broken (flat_map rules_in (take i books)) p d))
    → map breach new ≡ map Some (filter c (all_broken (flat_map rules_in (take (i + 1) books)) p d))
book_more c p d new fs books i b listed lt all more before =
    let it : Bor (List Rule) = get_or books i b in
    let step : i + 1 ≡ suc i = omega arith in
    let so : flat_map rules_in (take (i + 1) books) ≡ flat_map rules_in (take i books) ++ rules_in it =
    ap (λ n. flat_map rules_in (take n books)) step ∙ ap (flat_map rules_in) (one_more books i it lt (get_or_default books i b it lt)) ∙ flat_map-append rules_in (take i books) (it ∷ [])
    ∙ ap (λ q. flat_map rules_in (take i books) ++ q) (append-nil (rules_in it)) in
    let were : List Told = all_broken (flat_map rules_in (take i books)) p d in
    let are : List Told = all_broken (rules_in it) p d in
    let whole : filter c (all_broken (flat_map rules_in (take (i + 1) books)) p d) ≡ filter c were ++ filter c are =
    ap (λ q. filter c (all_broken q p d)) so ∙ ap (filter c) (all_of_both (flat_map rules_in (take i books)) (rules_in it) p d) ∙ filter-append c were are in
    more ∙ ap (λ q. q ++ map Some (filter c (map told listed))) before ∙ ap (λ q. map Some (filter c were) ++ map Some (filter c q)) all
    ∙ sym (map-append Some (filter c were) (filter c are)) ∙ ap (map Some) (sym whole)

-- ---- nothing is wrong

pub none_counted : (b e v : List Finding) (k : List Told) (n : List Report) → v ≡ b ++ e → map breach b ≡ map Some k → length e ≡ length n → (v ≡ []) ↔ ((k ≡ []) × (n ≡ []))
none_counted [] [] v [] [] is says len = ((λ none. (refl, refl)), (λ all. is))
none_counted [] [] v [] (x ∷ n) is says len = absurd (omega arith)
none_counted [] [] v (x ∷ k) n is says len = cc
none_counted [] (x ∷ e) v k [] is says len = absurd (omega arith)
none_counted [] (x ∷ e) v k (y ∷ n) is says len = ((λ none. cc), (λ all. let no = all.1 in cc))
none_counted (x ∷ b) e v [] n is says len = cc
none_counted (x ∷ b) e v (y ∷ k) n is says len = ((λ none. cc), (λ all. let no = all.0 in cc))

pub none_in_both : (a b v : List Finding) (M N : Type 0) → v ≡ a ++ b → (a ≡ []) ↔ M → (b ≡ []) ↔ N → (v ≡ []) ↔ (M × N)
none_in_both [] [] v M N is h k = ((λ none. (h.0 refl, k.0 refl)), (λ all. is))
none_in_both [] (x ∷ b) v M N is h k = ((λ none. cc), (λ all. let no = k.1 all.1 in cc))
none_in_both (x ∷ a) b v M N is h k = ((λ none. cc), (λ all. let no = h.1 all.0 in cc))
