-- Members whose names stand twice, among annotations and elsewhere.
use Rattle.std.proofs.Common.{◌≡◌, ◌<◌, ◌≤◌, ◌+◌, ℕ, suc, Bool, true, false, List, [], ◌∷◌, ◌++◌, length, take, map, get_or, Option, Some, None, option_map, inl, inr, refl, sym, ap, ◌∙◌, subst, arith, length-append}
use Rattle.std.specs.Prelude.{◌↔◌, String, string_bytes, MatchOption, IfSome}
use Rattle.std.specs.declared.alloc.Global.{Global}
use Rattle.std.specs.List.{filter}
use Rattle.std.proofs.lemmas.List.{append-nil, take_all}
use Rattle.std.proofs.lemmas.List.Elements.{filter-append}
use Rattle.json.specs.Json.{Json, document}
use Rattle.oci_schema.specs.Twice.{repeated}
use Rattle.oci_schemas.specs.declared.kind.Kind.{Kind}
use Rattle.oci_findings.specs.declared.asked.Check.{Check}
use Rattle.oci_findings.specs.declared.finding.Finding.{Finding}
use Rattle.oci_findings.specs.Asked.{is_wrong_twice}
use Rattle.oci_findings.specs.Checks.{HasKeysOnce, HasNamesOnce}
use Rattle.oci_findings.specs.Repeated.{AreRepeated}
use Rattle.oci_findings.proofs.Each.{one_more, map_both}
use Rattle.oci_findings.proofs.Unlisted.{none_of_both}

-- ---- what is found in a text

pub none_repeated : (bytes : List ℕ) (v : List (String Global)) → HasNamesOnce bytes → v ≡ [] → AreRepeated bytes v
none_repeated bytes v once none = inl (once, none)

in_list : (o : Option Json) (v : List (String Global)) → option_map (repeated []) o ≡ Some (map string_bytes v) → MatchOption o (v ≡ []) (λ j. map string_bytes v ≡ repeated [] j)
in_list None v e = absurd cc
in_list (Some j) v e = cc

pub all_listed : (bytes : List ℕ) (v : List (String Global)) → option_map (repeated []) (document bytes) ≡ Some (map string_bytes v) → (v ≡ []) ↔ HasNamesOnce bytes → AreRepeated bytes v
all_listed bytes v e h = inr (h.1, in_list (document bytes) v e)

pub none_of_no_json : (bytes : List ℕ) (v : List (String Global)) → document bytes ≡ None → v ≡ [] → AreRepeated bytes v
none_of_no_json bytes v unread none = inr ((λ once. none), subst (λ o. MatchOption o (v ≡ []) (λ j. map string_bytes v ≡ repeated [] j)) (sym unread) none)

-- ---- those among annotations

module _ (p : List ℕ → Bool) where
  passed_of_none : (v : List (String Global)) → v ≡ [] → filter p (map string_bytes v) ≡ []
  passed_of_none v none = ap (λ q. filter p (map string_bytes q)) none

  of_list : (o : Option Json) (v : List (String Global)) → MatchOption o (v ≡ []) (λ j. map string_bytes v ≡ repeated [] j) → filter p (map string_bytes v) ≡ [] → IfSome o (λ j. filter p (repeated [] j) ≡ [])
  of_list None v h e = tt
  of_list (Some j) v h e = subst (λ q. filter p q ≡ []) h e

  to_list : (o : Option Json) (v : List (String Global)) → MatchOption o (v ≡ []) (λ j. map string_bytes v ≡ repeated [] j) → IfSome o (λ j. filter p (repeated [] j) ≡ []) → filter p (map string_bytes v) ≡ []
  to_list None v h keys = passed_of_none v h
  to_list (Some j) v h keys = subst (λ q. filter p q ≡ []) (sym h) keys

  passes_more : (xs : List (String Global)) (i : ℕ) (x : String Global) → i < length xs → x ≡ get_or xs i x
      → filter p (map string_bytes (take (i + 1) xs)) ≡ filter p (map string_bytes (take i xs)) ++ filter p (string_bytes x ∷ [])
  passes_more xs i x lt same =
      let step : i + 1 ≡ suc i = omega arith in
      ap (λ n. filter p (map string_bytes (take n xs))) step ∙ ap (λ q. filter p (map string_bytes q)) (one_more xs i x lt same) ∙ ap (filter p) (map_both string_bytes (take i xs) x)
      ∙ filter-append p (map string_bytes (take i xs)) (string_bytes x ∷ [])

  pub key_more : (xs : List (String Global)) (i : ℕ) (x : String Global) (n : ℕ) → i < length xs → x ≡ get_or xs i x → p (string_bytes x) ≡ true → n ≡ length (filter p (map string_bytes (take i xs)))
      → n + 1 ≡ length (filter p (map string_bytes (take (i + 1) xs)))
  key_more xs i x n lt same passes before =
      let one : filter p (string_bytes x ∷ []) ≡ string_bytes x ∷ [] = rw passes refl in
      let all = passes_more xs i x lt same ∙ ap (λ q. filter p (map string_bytes (take i xs)) ++ q) one in
      let count : length (filter p (map string_bytes (take (i + 1) xs))) ≡ length (filter p (map string_bytes (take i xs))) + 1 = ap length all ∙ length-append (filter p (map string_bytes (take i xs))) (string_bytes x ∷ []) in
      ap (λ k. k + 1) before ∙ sym count

  pub key_passed : (xs : List (String Global)) (i : ℕ) (x : String Global) (n : ℕ) → i < length xs → x ≡ get_or xs i x → p (string_bytes x) ≡ false → n ≡ length (filter p (map string_bytes (take i xs)))
      → n ≡ length (filter p (map string_bytes (take (i + 1) xs)))
  key_passed xs i x n lt same fails before =
      let one : filter p (string_bytes x ∷ []) ≡ [] = rw fails refl in
      before ∙ ap length (sym (passes_more xs i x lt same ∙ ap (λ q. filter p (map string_bytes (take i xs)) ++ q) one ∙ append-nil (filter p (map string_bytes (take i xs)))))

  pub keys_all : (xs : List (String Global)) (i : ℕ) (n : ℕ) → length xs ≤ i → n ≡ length (filter p (map string_bytes (take i xs))) → n ≡ length (filter p (map string_bytes xs))
  keys_all xs i n over before = before ∙ ap (λ q. length (filter p (map string_bytes q))) (take_all i xs over)

keys_once : (a : Check) (kind : Kind) (bytes : List ℕ) (v : List (String Global)) → AreRepeated bytes v → (filter (is_wrong_twice a kind) (map string_bytes v) ≡ []) ↔ HasKeysOnce a kind bytes
keys_once a kind bytes v (inl (once, none)) = ((λ e. inl once), (λ h. passed_of_none (is_wrong_twice a kind) v none))
keys_once a kind bytes v (inr (none, listed)) =
    ((λ e. inr (of_list (is_wrong_twice a kind) (document bytes) v listed e)), (λ h. elim h [ inl once ↦ passed_of_none (is_wrong_twice a kind) v (none once) | inr keys ↦ to_list (is_wrong_twice a kind) (document bytes) v listed keys ]))

-- a finding of each that is wrong: there is none exactly if no key stands twice that may not
pub keys_found : (a : Check) (kind : Kind) (bytes : List ℕ) (v : List (String Global)) (found : List Finding) → AreRepeated bytes v → length found ≡ length (filter (is_wrong_twice a kind) (map string_bytes v))
    → (found ≡ []) ↔ HasKeysOnce a kind bytes
keys_found a kind bytes v found are count =
    let once = keys_once a kind bytes v are in
    let same = none_of_both found (filter (is_wrong_twice a kind) (map string_bytes v)) count in
    ((λ e. once.0 (same.0 e)), (λ h. same.1 (once.1 h)))
