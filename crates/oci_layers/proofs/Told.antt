-- What is told of a layer is what its entries break.
use Rattle.std.proofs.Common.{◌≡◌, ◌↔◌, ℕ, zero, suc, ◌+◌, ◌≤◌, List, [], ◌∷◌, ◌++◌, length, take, drop, Bool, true, false, Some, inl, inr, refl, sym, ap, ◌∙◌, subst, append_assoc, append-nil, length-append, length-drop, true≢false, arith}
use Rattle.std.specs.Prelude.{◌⊎◌, slice_get}
use Rattle.std.specs.List.{Contains}
use Rattle.std.proofs.lemmas.List.Elements.{Contains-append_cases, Contains-append_left, Contains-append_right}
use Rattle.std.proofs.lemmas.List.{nil_from_length}
use Rattle.tar.specs.Entries.{Member}
use Rattle.tar.specs.declared.index.Place.{Place}
use Rattle.tar_folder.proofs.Elements.{none_in, front_or_rest, in_front}
use Rattle.oci_layers.proofs.Keeping.{keeps_tells}
use Rattle.oci_layers.specs.Decided.{keeps, every, unless, told_each, findings_behind, members}
use Rattle.oci_layers.specs.Rules.{IsBroken, Keeps}
use Rattle.oci_layers.specs.declared.broken.LayerFinding.{LayerFinding}
use Rattle.oci_layers.specs.declared.rule.LayerRule.{LayerRule}
use Rattle.oci_layers.specs.declared.rule.LayerRule.TheVariants.{Kind, Sparse, PathOnce, PathUnderLink, PathInside, LinkInside, HardLinkInside, HardLinkKind, WhiteoutEmpty, WhiteoutName, WhiteoutReserved, WhiteoutFirst, WhiteoutSibling, Opaque}

-- each rule is looked at
every_has : (r : LayerRule) → Contains every r
every_has Kind = (0, omega arith, refl)
every_has Sparse = (1, omega arith, refl)
every_has PathOnce = (2, omega arith, refl)
every_has PathUnderLink = (3, omega arith, refl)
every_has PathInside = (4, omega arith, refl)
every_has LinkInside = (5, omega arith, refl)
every_has HardLinkInside = (6, omega arith, refl)
every_has HardLinkKind = (7, omega arith, refl)
every_has WhiteoutEmpty = (8, omega arith, refl)
every_has WhiteoutName = (9, omega arith, refl)
every_has WhiteoutReserved = (10, omega arith, refl)
every_has WhiteoutFirst = (11, omega arith, refl)
every_has WhiteoutSibling = (12, omega arith, refl)
every_has Opaque = (13, omega arith, refl)

-- ---- of one entry

record IsTold (before : List Member) (m : Member) (x : LayerFinding) : Type 0 where
  at : x.place ≡ length before
  broken : keeps x.rule before m ≡ false

from_told : (rs : List LayerRule) (before : List Member) (m : Member) (x : LayerFinding) → Contains (told_each rs before m) x → IsTold before m x
from_told [] before m x h = none_in x h
from_told (r ∷ rs) before m x h = go (from_told rs before m x) (keeps r before m) refl h
  where
    first : (Contains (told_each rs before m) x → IsTold before m x) → keeps r before m ≡ false → (record { place = length before; rule = r } ≡ x) ⊎ Contains (told_each rs before m) x → IsTold before m x
    first again t (inl e) = record { at = sym (ap (λ (y : LayerFinding). y.place) e); broken = subst (λ (y : LayerFinding). keeps y.rule before m ≡ false) e t }
    first again t (inr k) = again k

    go : (Contains (told_each rs before m) x → IsTold before m x) → (b : Bool) → keeps r before m ≡ b → Contains (unless b (length before) r ++ told_each rs before m) x → IsTold before m x
    go again true t k = again k
    go again false t k = first again t (front_or_rest (record { place = length before; rule = r }) (told_each rs before m) x k)

into_told : (rs : List LayerRule) (before : List Member) (m : Member) (r : LayerRule) → Contains rs r → keeps r before m ≡ false → Contains (told_each rs before m) (record { place = length before; rule = r })
into_told [] before m r h t = none_in r h
into_told (q ∷ rs) before m r h t = go (λ k. into_told rs before m r k t) (front_or_rest q rs r h)
  where
    go : (Contains rs r → Contains (told_each rs before m) (record { place = length before; rule = r })) → (q ≡ r) ⊎ Contains rs r
        → Contains (unless (keeps q before m) (length before) q ++ told_each rs before m) (record { place = length before; rule = r })
    go again (inl e) =
        subst (λ (b : Bool). Contains (unless b (length before) q ++ told_each rs before m) (record { place = length before; rule = r })) (sym (ap (λ (p : LayerRule). keeps p before m) e ∙ t))
        (subst (λ (p : LayerRule). Contains (record { place = length before; rule = p } ∷ told_each rs before m) (record { place = length before; rule = r })) (sym e)
        (in_front (record { place = length before; rule = r }) (told_each rs before m)))
    go again (inr k) = Contains-append_right (unless (keeps q before m) (length before) q) (told_each rs before m) (record { place = length before; rule = r }) (again k)

-- ---- of all entries

record IsFound (before rest : List Member) (x : LayerFinding) : Type 0 where
  place : ℕ
  entry : Member
  there : slice_get rest place ≡ Some entry
  at : x.place ≡ length before + place
  broken : keeps x.rule (before ++ take place rest) entry ≡ false

found_here : (before : List Member) (m : Member) (rest : List Member) (x : LayerFinding) → IsTold before m x → IsFound before (m ∷ rest) x
found_here before m rest x h = record {
  place = 0;
  entry = m;
  there = refl;
  at = omega (arith, h.at);
  broken = subst (λ (l : List Member). keeps x.rule l m ≡ false) (sym (append-nil before)) h.broken;
}

found_later : (before : List Member) (m : Member) (rest : List Member) (x : LayerFinding) → IsFound (before ++ m ∷ []) rest x → IsFound before (m ∷ rest) x
found_later before m rest x h = record {
  place = suc h.place;
  entry = h.entry;
  there = h.there;
  at = omega (arith, h.at, length-append before (m ∷ []));
  broken = subst (λ (l : List Member). keeps x.rule l h.entry ≡ false) (append_assoc before (m ∷ []) (take h.place rest)) h.broken;
}

from_findings : (before rest : List Member) (x : LayerFinding) → Contains (findings_behind before rest) x → IsFound before rest x
from_findings before [] x h = none_in x h
from_findings before (m ∷ rest) x h = go (from_findings (before ++ m ∷ []) rest x) (Contains-append_cases (told_each every before m) (findings_behind (before ++ m ∷ []) rest) x h)
  where
    go : (Contains (findings_behind (before ++ m ∷ []) rest) x → IsFound (before ++ m ∷ []) rest x)
        → Contains (told_each every before m) x ⊎ Contains (findings_behind (before ++ m ∷ []) rest) x → IsFound before (m ∷ rest) x
    go again (inl k) = found_here before m rest x (from_told every before m x k)
    go again (inr k) = found_later before m rest x (again k)

into_findings : (before rest : List Member) (k : ℕ) (m : Member) (r : LayerRule) (place : ℕ) → slice_get rest k ≡ Some m → place ≡ length before + k → keeps r (before ++ take k rest) m ≡ false
    → Contains (findings_behind before rest) (record { place = place; rule = r })
into_findings before [] k m r place there at t = absurd cc
into_findings before (e ∷ rest) zero m r place there at t =
    let same : e ≡ m = cc there in
    let here : place ≡ length before = omega (arith, at) in
    let kept : keeps r before e ≡ false = ap (λ (d : Member). keeps r before d) same ∙ ap (λ (l : List Member). keeps r l m) (sym (append-nil before)) ∙ t in
    subst (λ (n : ℕ). Contains (told_each every before e ++ findings_behind (before ++ e ∷ []) rest) (record { place = n; rule = r })) (sym here)
    (Contains-append_left (told_each every before e) (findings_behind (before ++ e ∷ []) rest) (record { place = length before; rule = r }) (into_told every before e r (every_has r) kept))
into_findings before (e ∷ rest) (suc k) m r place there at t =
    Contains-append_right (told_each every before e) (findings_behind (before ++ e ∷ []) rest) (record { place = place; rule = r })
    (into_findings (before ++ e ∷ []) rest k m r place there (omega (arith, at, length-append before (e ∷ [])))
    (ap (λ (l : List Member). keeps r l m) (append_assoc before (e ∷ []) (take k rest)) ∙ t))

-- ---- the laws

broken_of : (es : List Member) (x : LayerFinding) → IsFound [] es x → IsBroken es x
broken_of es x h =
    let at : h.place ≡ x.place = omega (arith, h.at) in (
      h.entry,
      subst (λ (n : ℕ). slice_get es n ≡ Some h.entry) at h.there,
      λ kept. true≢false (sym ((keeps_tells x.rule (take x.place es) h.entry).1 kept) ∙ subst (λ (n : ℕ). keeps x.rule (take n es) h.entry ≡ false) at h.broken),
    )

found_of : (es : List Member) (x : LayerFinding) → IsBroken es x → Contains (findings_behind [] es) x
found_of es x (m, there, not_kept) = go (keeps x.rule (take x.place es) m) refl
  where
    go : (b : Bool) → keeps x.rule (take x.place es) m ≡ b → Contains (findings_behind [] es) x
    go true t = absurd (not_kept ((keeps_tells x.rule (take x.place es) m).0 t))
    go false t = into_findings [] es x.place m x.rule x.place there (omega arith) t

pub listed : (es : List Member) (found : List LayerFinding) → found ≡ findings_behind [] es → (x : LayerFinding) → Contains found x ↔ IsBroken es x
listed es found all x = (
  λ h. broken_of es x (from_findings [] es x (subst (λ (l : List LayerFinding). Contains l x) all h)),
  λ h. subst (λ (l : List LayerFinding). Contains l x) (sym all) (found_of es x h),
)

pub none_listed : (es : List Member) (found : List LayerFinding) → found ≡ findings_behind [] es → found ≡ []
    → (i : ℕ) (m : Member) (r : LayerRule) → slice_get es i ≡ Some m → Keeps r (take i es) m
none_listed es found all none i m r there = go (keeps r (take i es) m) refl
  where
    go : (b : Bool) → keeps r (take i es) m ≡ b → Keeps r (take i es) m
    go true t = (keeps_tells r (take i es) m).0 t
    go false t = none_in (record { place = i; rule = r }) (subst (λ (l : List LayerFinding). Contains l (record { place = i; rule = r })) (sym all ∙ none) (into_findings [] es i m r i there (omega arith) t))

-- where no entries are left, all is found
pub whole : (places : List Place) (before : List Member) (i : ℕ) (found all : List LayerFinding) → length places ≤ i
    → found ++ findings_behind before (members (drop i places)) ≡ all → found ≡ all
whole places before i found all past so_far =
    let none : drop i places ≡ [] = nil_from_length (drop i places) (omega (arith, length-drop i places)) in
    sym (append-nil found) ∙ ap (λ (l : List Place). found ++ findings_behind before (members l)) (sym none) ∙ so_far
