-- Name tables. A variant is named by its JSON text, so that a table is the list of these texts.
use Rattle.std.specs.Prelude.{◌≡◌, ℕ, List, [], ◌∷◌, Bool, true, false, not, ◌&&◌, bytes_eq, if◌then◌else◌}
use Rattle.std.specs.Bool.{beq, Decides}
use Rattle.std.specs.Cmp.{IsEquivalence, decided}
use Rattle.std.specs.List.{list_any}
use Rattle.std.proofs.Common.{ap}
use Rattle.std.proofs.lemmas.Slice.Eq.{bytes_eq-Decides}

-- the table has the text
abbrev pub is_listed : List (List ℕ) → List ℕ → Bool
is_listed table t = list_any (bytes_eq t) table

abbrev pub no_text_twice : List (List ℕ) → Bool
no_text_twice [] = true
no_text_twice (t ∷ ts) = not (is_listed ts t) && no_text_twice ts

-- what an open name holds: a variant of the table, or any other text
pub data Name : Type 0 where
  variant : List ℕ → Name
  other : List ℕ → Name

-- the listed variant, else `Other` of the text
abbrev pub opened : List (List ℕ) → List ℕ → Name
opened table t = if is_listed table t then variant t else other t

abbrev pub is_other : Name → Bool
is_other (variant t) = false
is_other (other t) = true

abbrev pub name_text : Name → List ℕ
name_text (variant t) = t
name_text (other t) = t

-- of one kind, with the same text
abbrev pub name_eq : Name → Name → Bool
name_eq n m = beq (is_other n) (is_other m) && bytes_eq (name_text n) (name_text m)

pub name_eq-Decides : (n m : Name) → Decides (name_eq n m) (n ≡ m)
name_eq-Decides (variant s) (variant t) = (λ e. ap variant ((bytes_eq-Decides s t).0 e), λ e. (bytes_eq-Decides s t).1 (cc))
name_eq-Decides (variant s) (other t) = (λ e. cc, λ e. cc)
name_eq-Decides (other s) (variant t) = (λ e. cc, λ e. cc)
name_eq-Decides (other s) (other t) = (λ e. ap other ((bytes_eq-Decides s t).0 e), λ e. (bytes_eq-Decides s t).1 (cc))

pub name_equiv : IsEquivalence name_eq
name_equiv = decided name_eq name_eq-Decides
