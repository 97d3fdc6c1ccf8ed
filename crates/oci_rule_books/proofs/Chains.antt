-- The rules of books, one book after the other.
use Rattle.std.proofs.Common.{◌≡◌, ◌++◌, List, [], ◌∷◌, map, ap, ◌∙◌, refl}
use Rattle.std.specs.Borrow.{Bor}
use Rattle.std.specs.List.{flat_map}
use Rattle.std.specs.Prelude.{Result, IfOk, ⊤}
use Rattle.std.proofs.lemmas.Grind.{flat_map-append}
use Rattle.std.proofs.lemmas.Result.{IfOk-weaker}
use Rattle.oci_rules.specs.declared.rule.Rule as declared
use Rattle.oci_rules.specs.Rules.{Rule}
use Rattle.oci_rules.specs.Tables.{rule_of}

abbrev pub Part : Type 0
Part = Bor (List declared.Rule)

abbrev pub rules_in : List Part → List Rule
rules_in ps = flat_map (λ p. map rule_of p.now) ps

abbrev pub parts_in : List (List Part) → List Part
parts_in bs = flat_map (λ b. b) bs

-- each book has these rules
abbrev pub AllHave : List (List Part) → List (List Rule) → Type 0
AllHave [] [] = ⊤
AllHave [] (rs ∷ rss) = ⊥
AllHave (b ∷ bs) [] = ⊥
AllHave (b ∷ bs) (rs ∷ rss) = (rules_in b ≡ rs) × AllHave bs rss

abbrev pub joined : List (List Rule) → List Rule
joined [] = []
joined (rs ∷ rss) = rs ++ joined rss

pub all_joined : (bs : List (List Part)) (rss : List (List Rule)) → AllHave bs rss → rules_in (parts_in bs) ≡ joined rss
all_joined [] [] have = refl
all_joined [] (rs ∷ rss) have = elim have [ ]
all_joined (b ∷ bs) [] have = elim have [ ]
all_joined (b ∷ bs) (rs ∷ rss) have =
    flat_map-append (λ (p : Part). map rule_of p.now) b (parts_in bs) ∙ (ap (λ x. x ++ rules_in (parts_in bs)) have.0 ∙ ap (λ y. rs ++ y) (all_joined bs rss have.1))

pub collects : {X E : Type 0} (r : Result X E) (items : X → List Part) (bs : List (List Part)) (rss : List (List Rule))
    → IfOk r (λ v. items v ≡ parts_in bs) → AllHave bs rss → IfOk r (λ v. rules_in (items v) ≡ joined rss)
collects r items bs rss are have =
    IfOk-weaker r (λ v. items v ≡ parts_in bs) (λ v. rules_in (items v) ≡ joined rss) (λ v e. ap rules_in e ∙ all_joined bs rss have) are
