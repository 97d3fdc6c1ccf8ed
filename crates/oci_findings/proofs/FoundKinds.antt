-- How a kind is found.
use Rattle.std.proofs.Common.{◌≡◌, ◌<◌, ◌≤◌, ◌+◌, ℕ, inl, inr, Bool, true, false, ◌&&◌, not, List, [], ◌∷◌, ◌++◌, length, take, get_or, Option, Some, None, is_some, option_map, refl, sym, ap, ◌∙◌}
use Rattle.std.specs.Prelude.{cond}
use Rattle.std.specs.List.{filter}
use Rattle.std.specs.Prelude.{◌⊎◌}
use Rattle.std.proofs.lemmas.List.{append-nil, take_all}
use Rattle.std.proofs.lemmas.List.Elements.{filter_more}
use Rattle.json.specs.Token.{Token}
use Rattle.serde_json.specs.Data.{Data}
use Rattle.oci_json_tape.specs.Elements.{FindsData}
use Rattle.oci_schemas.specs.declared.kind.Kind.{Kind}
use Rattle.oci_findings.specs.declared.detect.Known.{Known}
use Rattle.oci_findings.specs.declared.detect.Known.TheVariants.{Nothing, One, Several}
use Rattle.oci_findings.specs.FoundKind.{only}
use Rattle.oci_findings.specs.Known.{counted}

-- ---- a member

pub is_found : (r : Option (List Token)) (o : Option Data) → FindsData r o → is_some r ≡ is_some o
is_found None o none = sym (ap is_some none)
is_found (Some ts) o (d, is, begins) = sym (ap is_some is)

pub is_mapped : {A B : Type 0} (f : A → B) (o : Option A) → is_some (option_map f o) ≡ is_some o
is_mapped f None = refl
is_mapped f (Some x) = refl

-- ---- what is known of a kind

pub is_known_if : (all any x y : Bool) → all ≡ true → all ≡ x → any ≡ y → not any ≡ (x && not y)
is_known_if all any x y is of has = ap not has ∙ ap (λ q. q && not y) (sym is ∙ of)

pub is_known_not : (all x y : Bool) → all ≡ false → all ≡ x → all ≡ (x && not y)
is_known_not all x y is of = is ∙ ap (λ q. q && not y) (sym is ∙ of)

-- ---- the only one

one_of : Known → Option Kind
one_of Nothing = None
one_of (One kind) = Some kind
one_of Several = None

one_counted : (kinds : List Kind) → one_of (counted kinds) ≡ only kinds
unfolding one_of
one_counted [] = refl
one_counted (kind ∷ []) = refl
one_counted (kind ∷ other ∷ kinds) = refl

pub first_counted : (kinds : List Kind) (kind : Kind) → Nothing ≡ counted kinds → One kind ≡ counted (kinds ++ kind ∷ [])
first_counted [] kind is = refl
first_counted (k ∷ []) kind is = cc
first_counted (k ∷ l ∷ kinds) kind is = cc

pub second_counted : (kinds : List Kind) (first kind : Kind) → One first ≡ counted kinds → Several ≡ counted (kinds ++ kind ∷ [])
second_counted [] first kind is = cc
second_counted (k ∷ []) first kind is = refl
second_counted (k ∷ l ∷ kinds) first kind is = refl

pub next_counted : (kinds : List Kind) (kind : Kind) → Several ≡ counted kinds → Several ≡ counted (kinds ++ kind ∷ [])
next_counted [] kind is = cc
next_counted (k ∷ []) kind is = refl
next_counted (k ∷ l ∷ kinds) kind is = refl

module _ (p : Kind → Bool) where
  -- one kind more passes, or does not
  pub known_more : (all : List Kind) (i : ℕ) (d : Kind) (old new : Known) → i < length all → p (get_or all i d) ≡ true → ((kinds : List Kind) → old ≡ counted kinds → new ≡ counted (kinds ++ get_or all i d ∷ []))
      → old ≡ counted (filter p (take i all)) → new ≡ counted (filter p (take (i + 1) all))
  known_more all i d old new lt passes adds before =
      adds (filter p (take i all)) before
      ∙ ap counted (sym (filter_more p all i d lt ∙ ap (λ b. filter p (take i all) ++ cond b (get_or all i d ∷ []) []) passes))

  pub known_same : (all : List Kind) (i : ℕ) (d : Kind) (old : Known) → i < length all → p (get_or all i d) ≡ false → old ≡ counted (filter p (take i all)) → old ≡ counted (filter p (take (i + 1) all))
  known_same all i d old lt fails before =
      before ∙ ap counted (sym (filter_more p all i d lt ∙ ap (λ b. filter p (take i all) ++ cond b (get_or all i d ∷ []) []) fails ∙ append-nil (filter p (take i all))))

  -- all were looked at
  pub only_one : (all : List Kind) (i : ℕ) (old : Known) (kind : Kind) → length all ≤ i → old ≡ counted (filter p (take i all)) → old ≡ One kind → Some kind ≡ only (filter p all)
  unfolding one_of
  only_one all i old kind over before is =
      ap one_of (sym is ∙ before) ∙ one_counted (filter p (take i all)) ∙ ap (λ q. only (filter p q)) (take_all i all over)

  pub not_one : (all : List Kind) (i : ℕ) (old : Known) → length all ≤ i → old ≡ counted (filter p (take i all)) → (old ≡ Nothing) ⊎ (old ≡ Several) → None ≡ only (filter p all)
  unfolding one_of
  not_one all i old over before (inl is) = ap one_of (sym is ∙ before) ∙ one_counted (filter p (take i all)) ∙ ap (λ q. only (filter p q)) (take_all i all over)
  not_one all i old over before (inr is) = ap one_of (sym is ∙ before) ∙ one_counted (filter p (take i all)) ∙ ap (λ q. only (filter p q)) (take_all i all over)
