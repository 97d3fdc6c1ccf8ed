-- The rules of the levels up to one, book by book.
use Rattle.std.proofs.Common.{◌≡◌, ◌<◌, ◌+◌, ℕ, suc, List, [], ◌∷◌, ◌++◌, length, drop, map, get_or, append_assoc, refl, sym, ap, ◌∙◌, inl, inr, arith}
use Rattle.std.proofs.Math.Seq.{drop-cons}
use Rattle.std.specs.Borrow.{Bor}
use Rattle.std.specs.List.{flat_map}
use Rattle.std.proofs.lemmas.Bool.{cases_Bool}
use Rattle.std.specs.Prelude.{◌↔◌}
use Rattle.oci_rules.specs.Rules.{Level, Rule}
use Rattle.oci_rules.specs.Tables.{rule_of}
use Rattle.oci_rules.specs.declared.rule.Rule as declared
use Rattle.oci_ffi.specs.Rules.{is_up_to, rules_up_to}

pub up_to_joined : (last : Level) (rs ss : List Rule) → rules_up_to last (rs ++ ss) ≡ rules_up_to last rs ++ rules_up_to last ss
up_to_joined last [] ss = refl
up_to_joined last (r ∷ rs) ss =
    elim (cases_Bool (is_up_to last r.level)) [
      | inl same ↦ rw (same, up_to_joined last rs ss)
      | inr other ↦ rw (other, up_to_joined last rs ss)
    ]

abbrev pub rules_in : Bor (List declared.Rule) → List Rule
rules_in book = map rule_of book.now

-- one book more
pub book_step : (last : Level) (books : List (Bor (List declared.Rule))) (i : ℕ) (book : Bor (List declared.Rule)) (old new whole : List Rule) → i < length books
    → new ≡ old ++ rules_up_to last (rules_in (get_or books i book)) → old ++ rules_up_to last (flat_map rules_in (drop i books)) ≡ whole
    → new ++ rules_up_to last (flat_map rules_in (drop (i + 1) books)) ≡ whole
book_step last books i book old new whole below more before =
    let it = get_or books i book in
    let step : i + 1 ≡ suc i = omega arith in
    let rest = flat_map rules_in (drop (i + 1) books) in
    let cut : drop i books ≡ it ∷ drop (i + 1) books = drop-cons books i book below ∙ ap (λ n. it ∷ drop n books) (sym step) in
    ap (λ q. q ++ rules_up_to last rest) more ∙ append_assoc old (rules_up_to last (rules_in it)) (rules_up_to last rest) ∙ ap (λ q. old ++ q) (sym (up_to_joined last (rules_in it) rest))
    ∙ ap (λ bs. old ++ rules_up_to last (flat_map rules_in bs)) (sym cut) ∙ before

none_is_empty : {T : Type 0} (xs : List T) → length xs ≡ 0 → xs ≡ []
none_is_empty [] e = refl
none_is_empty (x ∷ xs) e = cc

-- nothing is listed exactly where none is counted
pub none_listed : {T : Type 0} (P : Type 0) (found : List T) (n : ℕ) → n ≡ length found → (found ≡ []) ↔ P → (n ≡ 0) ↔ P
none_listed P found n e h = (λ z. h.0 (none_is_empty found (cc)), λ p. let is = h.1 p in rw (e, is) refl)
