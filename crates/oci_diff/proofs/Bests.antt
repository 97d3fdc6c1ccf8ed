-- The best alignment has the longest common part.
use Rattle.std.proofs.Common.{◌≡◌, ◌≤◌, ◌<◌, ◌+◌, ◌-◌, ◌*◌, ◌==◌, ℕ, zero, suc, max, Bool, true, false, List, [], ◌∷◌, ◌++◌, add-one, get_or, length, Some, Vec, Global, refl, sym, ap, ◌∙◌, subst, eq-eqb, arith}
use Rattle.std.proofs.Math.ListN.{get_or-append}
use Rattle.std.proofs.Math.Seq.{get_or-append_seam}
use Rattle.std.proofs.lemmas.Bool.{ne_eqb}
use Rattle.std.proofs.lemmas.List.Elements.{Contains-get_or}
use Rattle.std.specs.List.{All, slice_index}
use Rattle.std.specs.Prelude.{◌↔◌, if◌then◌else◌}
use native.Mathlib.Decide.{dec_lt}
use Rattle.serde_json.specs.Data.{Data, Items}
use Rattle.serde_json.proofs.Views.{items_len-items_view}
use Rattle.serde_json.specs.Events.{items_len}
use Rattle.serde_json.specs.Find.{get_item}
use Rattle.serde_json.specs.View.{items_view}
use Rattle.serde_json.specs.declared.value.Value.{Value}
use Rattle.oci_model.specs.Alike.{is_same}
use Rattle.oci_model.specs.SameTrees.{same_if_equal}
use Rattle.oci_diff.specs.Aligned.{AreAligned, AreSameAt, Lead, first_after, second_after}
use Rattle.oci_diff.specs.Best.{sames, IsLongest, IsStepOf, are_alike, extra, gain_of, worth, best, score_at, IsRow, HasRows}
use Rattle.oci_diff.specs.Same.{AreSame}
use Rattle.oci_diff.specs.declared.aligned.Step.{Step}
use Rattle.oci_diff.specs.declared.aligned.Step.TheVariants.{Same, Both, First, Second}

-- what steps count from two indexes on
abbrev pub value : ℕ → ℕ → List Step → ℕ
value i j [] = 0
value i j (step ∷ steps) = worth i j step + value (first_after step i) (second_after step j) steps

extra_self : (i : ℕ) → extra i i ≡ 1
extra_self i = let e : (i == i) ≡ true = eq-eqb i i refl in rw e

extra_by : (b : Bool) → (if b then 1 else 0) ≤ 1
extra_by true = omega arith
extra_by false = omega arith

pub extra_most : (i j : ℕ) → extra i j ≤ 1
extra_most i j = extra_by (i == j)

pub extra_one : (i j : ℕ) → i ≡ j → extra i j ≡ 1
extra_one i j e = let is : (i == j) ≡ true = eq-eqb i j e in rw is

pub extra_none : (i j : ℕ) → (i ≡ j → ⊥) → extra i j ≡ 0
extra_none i j e = let is : (i == j) ≡ false = ne_eqb i j e in rw is

same_bools : {P : Type 0} (a b : Bool) → (a ≡ true) ↔ P → (b ≡ true) ↔ P → a ≡ b
same_bools true true h k = refl
same_bools true false h k = sym (k.1 (h.0 refl))
same_bools false true h k = h.1 (k.0 refl)
same_bools false false h k = refl

pub more_scores : (f : ℕ → ℕ) (row : List ℕ) (left b : ℕ) → length row ≡ left + 1 → ((c : ℕ) → c ≤ left → get_or row c 0 ≡ f c) → b ≡ f (left + 1) → (c : ℕ) → c ≤ left + 1 → get_or (row ++ b ∷ []) c 0 ≡ f c
more_scores f row left b e before is c h =
    elim (dec_lt c (left + 1)) [
      | Prim.yes lt ↦ get_or-append row (b ∷ []) 0 c (omega arith) ∙ before c (omega arith)
      | Prim.no ge ↦ let last : c ≡ length row = omega (arith, ge) in let same : left + 1 ≡ c = omega (arith, ge) in rw last (get_or-append_seam row b [] 0) ∙ is ∙ ap f same
    ]

module _ (ds es : Items) (m n : ℕ) where
  pub best_none : (r : ℕ) → best ds es m n r 0 ≡ 0
  best_none zero = refl
  best_none (suc r) = refl

  pub best_wider : (r c : ℕ) → best ds es m n r c ≤ best ds es m n r (suc c)
  best_wider zero c = omega arith
  best_wider (suc r) c = omega arith

  pub best_taller : (r c : ℕ) → best ds es m n r c ≤ best ds es m n (suc r) c
  best_taller r zero = omega (arith, best_none r)
  best_taller r (suc c) = omega arith

  pub best_at : (r c i j : ℕ) → m - suc r ≡ i → n - suc c ≡ j
      → best ds es m n (suc r) (suc c) ≡ max (max (best ds es m n (suc r) c) (best ds es m n r (suc c))) (best ds es m n r c + gain_of ds es i j)
  best_at r c i j first second = rw (← first, ← second)

  -- the steps do not go past the ends
  pub within : (steps : List Step) (i j : ℕ) → Lead ds es i j steps m n → (i ≤ m) × (j ≤ n)
  within [] i j lead = (omega (arith, lead.0), omega (arith, lead.1))
  within (Same ∷ steps) i j lead = let h = within steps (i + 1) (j + 1) lead.1 in (omega (arith, h.0), omega (arith, h.1))
  within (Both k ∷ steps) i j lead = let h = within steps (i + 1) (j + 1) lead.1 in (omega (arith, h.0), omega (arith, h.1))
  within (First k ∷ steps) i j lead = let h = within steps (i + 1) j lead.1 in (omega (arith, h.0), h.1)
  within (Second k ∷ steps) i j lead = let h = within steps i (j + 1) lead.1 in (h.0, omega (arith, h.1))

  pub gain_same : (i j : ℕ) → AreSameAt ds es i j → gain_of ds es i j ≡ 65 + extra i j
  gain_same i j (d, e, p, q, same) = let alike : is_same d e ≡ true = (same_if_equal d e).1 same in rw (p, q, alike)

  extra_gained : (b : Bool) (x : ℕ) → x ≤ (if b then 65 else 0) + x
  extra_gained true x = omega arith
  extra_gained false x = omega arith

  pub gain_least : (i j : ℕ) → extra i j ≤ gain_of ds es i j
  gain_least i j = extra_gained (are_alike (get_item i ds) (get_item j es)) (extra i j)

  -- an alignment counts no more than the best
  pub upper : (steps : List Step) (i j : ℕ) → Lead ds es i j steps m n → value i j steps ≤ best ds es m n (m - i) (n - j)
  upper [] i j lead = omega arith
  upper (Same ∷ steps) i j lead =
      let h = within steps (i + 1) (j + 1) lead.1 in
      let r : m - i ≡ suc (m - (i + 1)) = omega (arith, h.0) in
      let c : n - j ≡ suc (n - (j + 1)) = omega (arith, h.1) in
      let e = best_at (m - (i + 1)) (n - (j + 1)) i j (omega (arith, h.0)) (omega (arith, h.1)) in
      rw (r, c) (omega (arith, e, gain_same i j lead.0, upper steps (i + 1) (j + 1) lead.1))
  upper (Both k ∷ steps) i j lead =
      let h = within steps (i + 1) (j + 1) lead.1 in
      let r : m - i ≡ suc (m - (i + 1)) = omega (arith, h.0) in
      let c : n - j ≡ suc (n - (j + 1)) = omega (arith, h.1) in
      let e = best_at (m - (i + 1)) (n - (j + 1)) i j (omega (arith, h.0)) (omega (arith, h.1)) in
      let one : extra i j ≡ 1 = subst (λ x. extra i x ≡ 1) (sym lead.0.0 ∙ lead.0.1) (extra_self i) in
      rw (r, c) (omega (arith, e, one, gain_least i j, upper steps (i + 1) (j + 1) lead.1))
  upper (First k ∷ steps) i j lead =
      let h = within steps (i + 1) j lead.1 in
      let r : m - i ≡ suc (m - (i + 1)) = omega (arith, h.0) in
      rw r (omega (arith, best_taller (m - (i + 1)) (n - j), upper steps (i + 1) j lead.1))
  upper (Second k ∷ steps) i j lead =
      let h = within steps i (j + 1) lead.1 in
      let c : n - j ≡ suc (n - (j + 1)) = omega (arith, h.1) in
      rw c (omega (arith, best_wider (m - i) (n - (j + 1)), upper steps i (j + 1) lead.1))

  -- one step more
  pub value_on : (a b : ℕ) (steps : List Step) (i j : ℕ) (step : Step) → Lead ds es a b steps i j → value a b (steps ++ step ∷ []) ≡ value a b steps + worth i j step
  value_on a b [] i j step (e, f) = rw (e, f) (omega arith)
  value_on a b (s ∷ steps) i j step lead = omega (arith, value_on (first_after s a) (second_after s b) steps i j step lead.1)

  -- what the steps count says how many pairs they name that are the same
  pub value_least : (steps : List Step) (i j : ℕ) → 65 * sames steps ≤ value i j steps
  value_least [] i j = omega arith
  value_least (Same ∷ steps) i j = omega (arith, value_least steps (i + 1) (j + 1))
  value_least (Both k ∷ steps) i j = omega (arith, value_least steps (i + 1) (j + 1))
  value_least (First k ∷ steps) i j = omega (arith, value_least steps (i + 1) j)
  value_least (Second k ∷ steps) i j = omega (arith, value_least steps i (j + 1))

  pub value_most : (steps : List Step) (i j : ℕ) → Lead ds es i j steps m n → value i j steps ≤ 65 * sames steps + (m - i)
  value_most [] i j lead = omega arith
  value_most (Same ∷ steps) i j lead = omega (arith, extra_most i j, within steps (i + 1) (j + 1) lead.1, value_most steps (i + 1) (j + 1) lead.1)
  value_most (Both k ∷ steps) i j lead = omega (arith, within steps (i + 1) (j + 1) lead.1, value_most steps (i + 1) (j + 1) lead.1)
  value_most (First k ∷ steps) i j lead = omega (arith, within steps (i + 1) j lead.1, value_most steps (i + 1) j lead.1)
  value_most (Second k ∷ steps) i j lead = omega (arith, value_most steps i (j + 1) lead.1)

  pub longest : (steps others : List Step) → m ≤ 64 → Lead ds es 0 0 steps m n → Lead ds es 0 0 others m n → best ds es m n (m - 0) (n - 0) ≤ value 0 0 steps → sames others ≤ sames steps
  longest steps others few lead other reached = omega (arith, few, value_least others 0 0, value_most steps 0 0 lead, upper others 0 0 other, reached)

  at_ends : (i j : ℕ) → i ≡ m → j ≡ n → best ds es m n (m - i) (n - j) ≡ 0
  at_ends i j e f = let none : m - i ≡ 0 = omega arith in rw none

  -- the best alignment from two indexes goes on to the next item of the one array, of the other, or of both
  pub best_from : (i j : ℕ) → i < m → j < n
      → best ds es m n (m - i) (n - j) ≡ max (max (best ds es m n (m - i) (n - (j + 1))) (best ds es m n (m - (i + 1)) (n - j))) (best ds es m n (m - (i + 1)) (n - (j + 1)) + gain_of ds es i j)
  best_from i j h k =
      let r : m - i ≡ suc (m - (i + 1)) = omega arith in
      let c : n - j ≡ suc (n - (j + 1)) = omega arith in
      rw (r, c) (best_at (m - (i + 1)) (n - (j + 1)) i j (omega arith) (omega arith))

  pub by_both : (i j : ℕ) → i < m → j < n → (best ds es m n (m - i) (n - j) ≡ best ds es m n (m - (i + 1)) (n - j) → ⊥) → (best ds es m n (m - i) (n - j) ≡ best ds es m n (m - i) (n - (j + 1)) → ⊥)
      → best ds es m n (m - i) (n - j) ≡ best ds es m n (m - (i + 1)) (n - (j + 1)) + gain_of ds es i j
  by_both i j h k first second = omega (arith, best_from i j h k, first, second)

  -- what a pair reaches that is the better step
  pub same_reached : (i j : ℕ) → i < m → j < n → AreSameAt ds es i j → (best ds es m n (m - i) (n - j) ≡ best ds es m n (m - (i + 1)) (n - j) → ⊥) → (best ds es m n (m - i) (n - j) ≡ best ds es m n (m - i) (n - (j + 1)) → ⊥)
      → best ds es m n (m - i) (n - j) ≤ 65 + extra i j + best ds es m n (m - (i + 1)) (n - (j + 1))
  same_reached i j h k same first second = omega (arith, by_both i j h k first second, gain_same i j same)

  pub pair_reached : (i j : ℕ) → i < m → j < n → are_alike (get_item i ds) (get_item j es) ≡ false → (best ds es m n (m - i) (n - j) ≡ best ds es m n (m - (i + 1)) (n - j) → ⊥) → (best ds es m n (m - i) (n - j) ≡ best ds es m n (m - i) (n - (j + 1)) → ⊥)
      → best ds es m n (m - i) (n - j) ≤ extra i j + best ds es m n (m - (i + 1)) (n - (j + 1))
  pair_reached i j h k other first second = let e = by_both i j h k first second in let g : gain_of ds es i j ≡ extra i j = rw other (omega arith) in omega (arith, e, g)

  -- what no pair reaches
  pub no_pair : (i j : ℕ) → i < m → j < n → are_alike (get_item i ds) (get_item j es) ≡ false → (i ≡ j → ⊥) → (best ds es m n (m - i) (n - j) ≡ best ds es m n (m - (i + 1)) (n - j) → ⊥) → (best ds es m n (m - i) (n - j) ≡ best ds es m n (m - i) (n - (j + 1)) → ⊥) → ⊥
  no_pair i j h k other apart first second =
      let e = pair_reached i j h k other first second in
      let none = extra_none i j apart in
      let c : n - j ≡ suc (n - (j + 1)) = omega arith in
      let wider : best ds es m n (m - (i + 1)) (n - (j + 1)) ≤ best ds es m n (m - (i + 1)) (n - j) = rw c (best_wider (m - (i + 1)) (n - (j + 1))) in
      omega (arith, e, none, wider, best_from i j h k, first)

  -- what is found in a table
  pub found_at : (rows : List (Vec ℕ Global)) (s r c r' c' : ℕ) → s ≡ score_at rows r c → HasRows ds es m n (m + 1) rows → r ≡ r' → c ≡ c' → r ≤ m → c ≤ n → s ≡ best ds es m n r' c'
  found_at rows s r c r' c' is has e f h k = is ∙ has r c (omega arith) k ∙ rw (e, f)

  -- pairs count little
  gain_by : (b : Bool) (x : ℕ) → x ≤ 1 → (if b then 65 else 0) + x ≤ 66
  gain_by true x h = omega arith
  gain_by false x h = omega arith

  pub gain_most : (i j : ℕ) → gain_of ds es i j ≤ 66
  gain_most i j = gain_by (are_alike (get_item i ds) (get_item j es)) (extra i j) (extra_most i j)

  pub best_most : (r c : ℕ) → best ds es m n r c ≤ 66 * c
  best_most zero c = omega arith
  best_most (suc r) zero = omega arith
  best_most (suc r) (suc c) = omega (arith, best_most (suc r) c, best_most r (suc c), best_most r c, gain_most (m - suc r) (n - suc c))

  pub alike_as : (i j : ℕ) (d e : Data) (b : Bool) → get_item i ds ≡ Some d → get_item j es ≡ Some e → (b ≡ true) ↔ AreSame d e → are_alike (get_item i ds) (get_item j es) ≡ b
  alike_as i j d e b p q told = rw (p, q) (same_bools (is_same d e) b (same_if_equal d e) told)

  -- the next row, one score more
  pub row_on : (i left : ℕ) → i < m → left < n
      → best ds es m n (m - i) (left + 1) ≡ max (max (best ds es m n (m - i) left) (best ds es m n (m - (i + 1)) (left + 1))) (best ds es m n (m - (i + 1)) left + gain_of ds es i (n - 1 - left))
  row_on i left h k =
      let r : m - i ≡ suc (m - (i + 1)) = omega arith in
      rw (r, add-one left) (best_at (m - (i + 1)) left i (n - 1 - left) (omega arith) (omega arith))

pub longest_of : (vs ws : List Value) (steps others : List Step) (i j : ℕ) → length vs ≤ 64 → i ≡ length vs → j ≡ length ws → Lead (items_view vs) (items_view ws) 0 0 steps i j → AreAligned others (items_view vs) (items_view ws)
    → best (items_view vs) (items_view ws) (length vs) (length ws) (length vs - 0) (length ws - 0) ≤ value 0 0 steps + best (items_view vs) (items_view ws) (length vs) (length ws) (length vs - i) (length ws - j)
    → sames others ≤ sames steps
longest_of vs ws steps others i j few first second lead aligned reached =
    let ds = items_view vs in
    let es = items_view ws in
    let m = length vs in
    let n = length ws in
    let other : Lead ds es 0 0 others m n = subst (λ x. Lead ds es 0 0 others x n) (items_len-items_view vs) (subst (λ x. Lead ds es 0 0 others (items_len ds) x) (items_len-items_view ws) aligned) in
    let own : Lead ds es 0 0 steps m n = subst (λ x. Lead ds es 0 0 steps x n) first (subst (λ x. Lead ds es 0 0 steps i x) second lead) in
    longest ds es m n steps others few own other (omega (arith, reached, at_ends ds es m n i j first second))

pub each_of : (vs ws : List Value) (steps : List Step) → AreAligned steps (items_view vs) (items_view ws) → (length vs ≤ 64 → length ws ≤ 64 → IsLongest steps (items_view vs) (items_view ws)) → All (IsStepOf (items_view vs) (items_view ws)) steps
each_of vs ws steps aligned longest =
    λ k d h. (steps, aligned, λ few fewer. longest (subst (λ x. x ≤ 64) (items_len-items_view vs) few) (subst (λ x. x ≤ 64) (items_len-items_view ws) fewer), Contains-get_or steps k d h)

-- one row more
row_more : (f : ℕ → ℕ → ℕ) (n : ℕ) (rows : List (Vec ℕ Global)) (row : Vec ℕ Global)
    → ((r c : ℕ) → r < length rows → c ≤ n → score_at rows r c ≡ f r c) → ((c : ℕ) → c ≤ n → slice_index row.items c ≡ f (length rows) c)
    → (r c : ℕ) → r < length rows + 1 → c ≤ n → score_at (rows ++ row ∷ []) r c ≡ f r c
row_more f n [] row has last zero c h k = last c k
row_more f n [] row has last (suc r) c h k = absurd (omega arith)
row_more f n (x ∷ xs) row has last zero c h k = has zero c (omega arith) k
row_more f n (x ∷ xs) row has last (suc r) c h k = row_more (λ s. f (suc s)) n xs row (λ s d p q. has (suc s) d (omega arith) q) last r c (omega arith) k

pub more_rows : (ds es : Items) (m n left : ℕ) (rows new : List (Vec ℕ Global)) (row : Vec ℕ Global) → new ≡ rows ++ row ∷ [] → length rows ≡ left
    → HasRows ds es m n left rows → IsRow ds es m n left row.items → HasRows ds es m n (left + 1) new
more_rows ds es m n left rows new row is many below last =
    rw is (λ r c h k. row_more (best ds es m n) n rows row (λ s d p q. below s d (omega arith) q) (λ d q. rw many (last d q)) r c (omega arith) k)
