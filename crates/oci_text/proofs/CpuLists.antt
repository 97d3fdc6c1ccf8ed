-- The scan of a CPU list ends well exactly on such a list.
use Rattle.std.proofs.Common.{◌≡◌, ℕ, ◌↔◌, true, List, [], ◌∷◌, ◌++◌, refl, sym, ap, ◌∙◌, subst, inl, inr, append_assoc}
use Rattle.std.specs.Prelude.{◌==◌}
use Rattle.std.specs.Char.{is_ascii_digit}
use Rattle.std.specs.List.{fold}
use Rattle.std.proofs.lemmas.Bool.{eqb-true}
use Rattle.oci_text.specs.CpuScan.{next_place, ends_list, is_cpu_text}
use Rattle.oci_text.specs.declared.cpu_list.Place.{Place}
use Rattle.oci_text.specs.declared.cpu_list.Place.TheVariants.{BeforeLow, InLow, BeforeHigh, InHigh, NoList}
use Rattle.oci_base.specs.Classes.{dash, IsSomeOf, IsMark, one, more}
use Rattle.oci_base.specs.CpuList.{IsCpuItem, IsCpuList}
use Rattle.oci_base.proofs.Runs.{by_test, run_some, run_mark, run_append, run_joined, run_describes, some_first, some_push}

mark_is : (mark b : ℕ) → (b == mark) ≡ true → b ∷ [] ≡ mark ∷ []
mark_is mark b h = ap (λ z. z ∷ []) (eqb-true b mark h)

-- an item may follow
abbrev Open : List ℕ → Type 0
Open t = (item : List ℕ) → IsCpuItem item → IsCpuList (t ++ item)

abbrev Says : Place → List ℕ → Type 0
Says BeforeLow t = Open t
Says InLow t = (u x : List ℕ) × Open u × IsSomeOf is_ascii_digit x × (t ≡ u ++ x)
Says BeforeHigh t = (u x : List ℕ) × Open u × IsSomeOf is_ascii_digit x × (t ≡ u ++ (x ++ dash ∷ []))
Says InHigh t = (u x y : List ℕ) × Open u × IsSomeOf is_ascii_digit x × IsSomeOf is_ascii_digit y × (t ≡ u ++ (x ++ dash ∷ y))
Says NoList t = Unit {0}

whole : (s : Place) (t : List ℕ) → Says s t → ends_list s ≡ true → IsCpuList t
whole BeforeLow t d e = cc e
whole InLow t d e = let (u, x, open', h, k) = d in subst IsCpuList (sym k) (open' x (inl h))
whole BeforeHigh t d e = cc e
whole InHigh t d e =
    let (u, x, y, open', h, l, k) = d in
    subst IsCpuList (sym k) (open' (x ++ dash ∷ y) (inr (record { low = x; high = y; is_low = h; is_high = l; spelled = refl })))
whole NoList t d e = cc e

opened : (t : List ℕ) (b : ℕ) → IsCpuList t → (b == 44) ≡ true → Open (t ++ b ∷ [])
opened t b j h = λ item k. more t (b ∷ []) item j (mark_is 44 b h) k

keeps : (s : Place) (t : List ℕ) (b : ℕ) → Says s t → Says (next_place s b) (t ++ b ∷ [])
keeps BeforeLow t b d =
    let P : Place → Type 0 = λ s. Says s (t ++ b ∷ []) in
    by_test P (is_ascii_digit b) _ _ (λ h. (t, b ∷ [], d, some_first is_ascii_digit b h, refl)) (λ _. tt)
keeps InLow t b d =
    let P : Place → Type 0 = λ s. Says s (t ++ b ∷ []) in
    let (u, x, open', h, k) = d in
    by_test P (is_ascii_digit b) _ _
    (λ e. (u, x ++ b ∷ [], open', some_push is_ascii_digit x b h e, ap (λ z. z ++ b ∷ []) k ∙ append_assoc u x (b ∷ [])))
    (λ _. by_test P (b == dash) _ _
    (λ e. (u, x, open', h, ap (λ z. z ++ b ∷ []) k ∙ append_assoc u x (b ∷ []) ∙ ap (λ z. u ++ (x ++ z)) (mark_is dash b e)))
    (λ _. by_test P (b == 44) _ _ (λ e. opened t b (whole InLow t d refl) e) (λ _. tt)))
keeps BeforeHigh t b d =
    let P : Place → Type 0 = λ s. Says s (t ++ b ∷ []) in
    let (u, x, open', h, k) = d in
    by_test P (is_ascii_digit b) _ _
    (λ e. (
      u,
      x,
      b ∷ [],
      open',
      h,
      some_first is_ascii_digit b e,
      ap (λ z. z ++ b ∷ []) k ∙ append_assoc u (x ++ dash ∷ []) (b ∷ []) ∙ ap (λ z. u ++ z) (append_assoc x (dash ∷ []) (b ∷ [])),
    ))
    (λ _. tt)
keeps InHigh t b d =
    let P : Place → Type 0 = λ s. Says s (t ++ b ∷ []) in
    let (u, x, y, open', h, l, k) = d in
    by_test P (is_ascii_digit b) _ _
    (λ e. (
      u,
      x,
      y ++ b ∷ [],
      open',
      h,
      some_push is_ascii_digit y b l e,
      ap (λ z. z ++ b ∷ []) k ∙ append_assoc u (x ++ dash ∷ y) (b ∷ []) ∙ ap (λ z. u ++ z) (append_assoc x (dash ∷ y) (b ∷ [])),
    ))
    (λ _. by_test P (b == 44) _ _ (λ e. opened t b (whole InHigh t d refl) e) (λ _. tt))
keeps NoList t b d = tt

abbrev Is : Place → Place → Type 0
Is s t = t ≡ s

abbrev Ends : Place → Type 0
Ends s = ends_list s ≡ true

over_low : (t : List ℕ) → IsSomeOf is_ascii_digit t → (s : Place) → Is BeforeLow s → Is InLow (fold next_place s t)
over_low = run_some next_place is_ascii_digit (Is BeforeLow) (Is InLow) (λ s b h e. rw (e, h) refl) (λ s b h e. rw (e, h) refl)

over_high : (t : List ℕ) → IsSomeOf is_ascii_digit t → (s : Place) → Is BeforeHigh s → Is InHigh (fold next_place s t)
over_high = run_some next_place is_ascii_digit (Is BeforeHigh) (Is InHigh) (λ s b h e. rw (e, h) refl) (λ s b h e. rw (e, h) refl)

over_item : (t : List ℕ) → IsCpuItem t → (s : Place) → Is BeforeLow s → Ends (fold next_place s t)
over_item t (inl h) s e = rw (over_low t h s e) refl
over_item t (inr r) s e =
    subst (λ z. Ends (fold next_place s z)) (sym r.spelled)
    (run_append next_place (Is BeforeLow) (Is InLow) Ends r.low (dash ∷ r.high) (over_low r.low r.is_low)
    (λ s i. rw (over_high r.high r.is_high (next_place s dash) (rw i refl)) refl) s e)

ends_comma : (s : Place) → Ends s → Is BeforeLow (next_place s 44)
ends_comma BeforeLow e = cc e
ends_comma InLow e = refl
ends_comma BeforeHigh e = cc e
ends_comma InHigh e = refl
ends_comma NoList e = cc e

pub lists : (t : List ℕ) → (ends_list (fold next_place BeforeLow t) ≡ true) ↔ IsCpuList t
lists t = (
  whole (fold next_place BeforeLow t) t (run_describes next_place Says keeps [] t BeforeLow (λ item k. one item k)),
  (λ j. run_joined next_place (Is BeforeLow) Ends (IsMark 44) IsCpuItem over_item (run_mark next_place 44 Ends (Is BeforeLow) ends_comma) t j BeforeLow refl),
)

pub cpu_list_decides : (t : List ℕ) → (is_cpu_text t ≡ true) ↔ IsCpuList t
unfolding is_cpu_text
cpu_list_decides t = lists t
