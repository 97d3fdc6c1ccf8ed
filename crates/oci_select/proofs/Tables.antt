-- Names and what they mean, as a walk over a table finds it.
use Rattle.std.proofs.Common.{◌≡◌, ℕ, ◌+◌, ◌<◌, ◌≤◌, Bool, true, false, List, ◌∷◌, length, get_or, drop, Some, None, refl, sym, ap, ◌∙◌, add-one, drop-cons, bytes_eq}
use Rattle.std.specs.Prelude.{IsTrue, ◌↔◌, Option, unwrap_or}
use Rattle.std.specs.Borrow.{Bor}
use Rattle.std.proofs.lemmas.List.{drop_all}
use Rattle.std.proofs.lemmas.Slice.Eq.{bytes_eq-Decides}
use Rattle.oci_select.specs.declared.normal.Alias.{Alias}
use Rattle.oci_select.specs.Normal.{meaning, lower}
use Rattle.oci_select.specs.Told.{rows, lowered}

-- a test of equality is the test
pub as_test : (a b : List ℕ) (r : Bool) → IsTrue r ↔ (a ≡ b) → r ≡ bytes_eq a b
as_test a b true h = sym ((bytes_eq-Decides a b).1 (h.0 refl))
as_test a b false h = unequal (bytes_eq a b) refl
  where
    unequal : (s : Bool) → bytes_eq a b ≡ s → false ≡ bytes_eq a b
    unequal true e = cc (h.1 ((bytes_eq-Decides a b).0 e))
    unequal false e = sym e

-- the table from the i-th row on
next : (table : List Alias) (i : ℕ) (d : Alias) → i < length table → drop i table ≡ get_or table i d ∷ drop (i + 1) table
next table i d lt = drop-cons table i d lt ∙ ap (λ k. get_or table i d ∷ drop k table) (sym (add-one i))

pub found_at : (table : List Alias) (i : ℕ) (d : Alias) (name : List ℕ) → i < length table → bytes_eq name (lower (get_or table i d).name.now) ≡ true
    → meaning (rows (drop i table)) name ≡ Some (lower (get_or table i d).meaning.now)
found_at table i d name lt is = ap (λ t. meaning (rows t) name) (next table i d lt) ∙ rw is refl

pub found_behind : (table : List Alias) (i : ℕ) (d : Alias) (name : List ℕ) → i < length table → bytes_eq name (lower (get_or table i d).name.now) ≡ false
    → meaning (rows (drop i table)) name ≡ meaning (rows (drop (i + 1) table)) name
found_behind table i d name lt is = ap (λ t. meaning (rows t) name) (next table i d lt) ∙ rw is refl

pub found_nowhere : (table : List Alias) (i : ℕ) (name : List ℕ) → length table ≤ i → meaning (rows (drop i table)) name ≡ None
found_nowhere table i name far = ap (λ t. meaning (rows t) name) (drop_all i table far)

-- what a name means, else the name
pub told_or : (o : Option (Bor (List ℕ))) (d : Bor (List ℕ)) (m : Option (List ℕ)) → lowered o ≡ m → lower (unwrap_or o d).now ≡ unwrap_or m (lower d.now)
told_or None d m e = rw (← e) refl
told_or (Some x) d m e = rw (← e) refl
