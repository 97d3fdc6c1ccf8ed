-- The first line that says something, and the groups of all lines, as a walk over the lines finds them.
use Rattle.std.proofs.Common.{◌≡◌, ℕ, ◌+◌, ◌<◌, ◌≤◌, List, [], ◌∷◌, ◌++◌, length, get_or, drop, map, sym, ap, ◌∙◌, subst, append_assoc, append-nil, add-one, drop-cons, Bor}
use Rattle.std.proofs.lemmas.List.{drop_all}
use Rattle.oci_accounts.specs.Lines.{Joins}
use Rattle.oci_accounts.specs.Files.{First, here, later, AreGroups, none, skips, joins, AddsGroups}

-- the texts of lines from the i-th on
abbrev pub from : List (Bor (List ℕ)) → ℕ → List (List ℕ)
from items i = map (λ line. line.now) (drop i items)

next : (items : List (Bor (List ℕ))) (i : ℕ) (d : Bor (List ℕ)) → i < length items → from items i ≡ (get_or items i d).now ∷ from items (i + 1)
next items i d lt = ap (λ (lines : List (Bor (List ℕ))). map (λ (line : Bor (List ℕ)). line.now) lines) (drop-cons items i d lt ∙ ap (λ k. get_or items i d ∷ drop k items) (sym (add-one i)))

past : (items : List (Bor (List ℕ))) (i : ℕ) → length items ≤ i → from items i ≡ []
past items i far = ap (λ (lines : List (Bor (List ℕ))). map (λ (line : Bor (List ℕ)). line.now) lines) (drop_all i items far)

module _ {A : Type 0} (Says : List ℕ → A → Type 0) where
  -- nothing was said by the lines before the i-th
  pub record Passed (items : List (Bor (List ℕ))) (i : ℕ) : Type 0 where
    pub to : (a : A) → First Says (from items i) a → First Says (from items 0) a
    pub back : (a : A) → First Says (from items 0) a → First Says (from items i) a

  pub begins : (items : List (Bor (List ℕ))) → Passed items 0
  begins items = record { to = λ a h. h; back = λ a h. h }

  behind : (line : List ℕ) (lines : List (List ℕ)) (a : A) → ((b : A) → ¬ Says line b) → First Says (line ∷ lines) a → First Says lines a
  behind line lines a silent (here _ _ _ says) = absurd (silent a says)
  behind line lines a silent (later _ _ _ _ h) = h

  pub passes : (items : List (Bor (List ℕ))) (i : ℕ) (d : Bor (List ℕ)) → i < length items → ((b : A) → ¬ Says (get_or items i d).now b) → Passed items i → Passed items (i + 1)
  passes items i d lt silent p =
      let step = next items i d lt in
      record {
        to = λ a h. p.to a (subst (λ lines. First Says lines a) (sym step) (later _ _ a silent h));
        back = λ a h. behind _ _ a silent (subst (λ lines. First Says lines a) step (p.back a h));
      }

  pub finds : (items : List (Bor (List ℕ))) (i : ℕ) (d : Bor (List ℕ)) (a : A) → i < length items → Says (get_or items i d).now a → Passed items i → First Says (from items 0) a
  finds items i d a lt says p = p.to a (subst (λ lines. First Says lines a) (sym (next items i d lt)) (here _ _ a says))

  nothing : (a : A) → ¬ First Says [] a
  nothing a h = elim h [ ]

  pub ends : (items : List (Bor (List ℕ))) (i : ℕ) → length items ≤ i → Passed items i → (a : A) → ¬ First Says (from items 0) a
  ends items i far p a h = nothing a (subst (λ lines. First Says lines a) (past items i far) (p.back a h))

-- these are the groups of the lines before the i-th
abbrev pub Gathers : List ℕ → List (Bor (List ℕ)) → ℕ → List ℕ → Type 0
Gathers member items i gids = (rest : List ℕ) → AreGroups member (from items i) rest → AreGroups member (from items 0) (gids ++ rest)

pub gathers_none : (member : List ℕ) (items : List (Bor (List ℕ))) → Gathers member items 0 []
gathers_none member items rest h = h

-- the groups of a line and of those behind it
all_groups : (member line : List ℕ) (lines : List (List ℕ)) (added rest : List ℕ) → AreGroups member (line ∷ []) added → AreGroups member lines rest → AreGroups member (line ∷ lines) (added ++ rest)
all_groups member line lines _ rest (skips _ _ _ silent none) h = skips line lines rest silent h
all_groups member line lines _ rest (joins _ _ gid _ says none) h = joins line lines gid rest says h

pub gathers_more : (member : List ℕ) (items : List (Bor (List ℕ))) (i : ℕ) (d : Bor (List ℕ)) (gids more : List ℕ) → i < length items → AddsGroups member (get_or items i d).now gids more
    → Gathers member items i gids → Gathers member items (i + 1) more
gathers_more member items i d gids more lt a g rest h =
    subst (AreGroups member (from items 0)) (sym (ap (λ t. t ++ rest) a.grown ∙ append_assoc gids a.added rest))
    (g (a.added ++ rest) (subst (λ lines. AreGroups member lines (a.added ++ rest)) (sym (next items i d lt)) (all_groups member _ _ a.added rest a.are_groups h)))

pub adds_none : (member line : List ℕ) (gids : List ℕ) → ((g : ℕ) → ¬ Joins member line g) → AddsGroups member line gids gids
adds_none member line gids silent = record { added = []; are_groups = skips line [] [] silent none; grown = sym (append-nil gids) }

pub adds_one : (member line : List ℕ) (gids more : List ℕ) (gid : ℕ) → Joins member line gid → more ≡ gids ++ gid ∷ [] → AddsGroups member line gids more
adds_one member line gids more gid says e = record { added = gid ∷ []; are_groups = joins line [] gid [] says none; grown = e }

pub gathers_all : (member : List ℕ) (items : List (Bor (List ℕ))) (i : ℕ) (gids : List ℕ) → length items ≤ i → Gathers member items i gids → AreGroups member (from items 0) gids
gathers_all member items i gids far g =
    subst (AreGroups member (from items 0)) (append-nil gids) (g [] (subst (λ lines. AreGroups member lines []) (sym (past items i far)) none))
