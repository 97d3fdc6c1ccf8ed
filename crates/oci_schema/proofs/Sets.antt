-- Sets of texts, by what they contain.
use Rattle.std.proofs.Common.{◌≡◌, ℕ, List, Bool, true, false, cond, ◌||◌, String, bytes_eq, string_bytes, refl, sym, ap, ◌∙◌}
use Rattle.std.specs.declared.alloc.Global.{Global}
use Rattle.std.specs.String.{string_cmp}
use Rattle.std.specs.BTreeSet.{BTreeSet, UpdatesBy, contains_text}
use Rattle.std.proofs.lemmas.Bool.Decides.{same_from_decides}
use Rattle.std.proofs.lemmas.Map.Text.{btree_set_updates_text}
use Rattle.std.proofs.lemmas.Slice.Eq.{bytes_eq-Decides}

-- equality goes both ways
turned : (xs ys : List ℕ) → bytes_eq xs ys ≡ bytes_eq ys xs
turned xs ys =
    let there = bytes_eq-Decides xs ys in
    let back = bytes_eq-Decides ys xs in
    same_from_decides (bytes_eq xs ys) (bytes_eq ys xs) there ((λ e. sym (back.0 e)), (λ h. back.1 (sym h)))

cond_or : (b c : Bool) → cond b true c ≡ (b || c)
cond_or true c = refl
cond_or false c = refl

-- after one more text
pub one_more : (k : String Global) (t : List ℕ) (s n : BTreeSet (String Global)) → string_bytes k ≡ t → UpdatesBy string_cmp (string_cmp k) s n true → (q : List ℕ)
    → contains_text n q ≡ (bytes_eq q t || contains_text s q)
one_more k t s n is updates q =
    btree_set_updates_text (string_bytes k) s n true updates q
    ∙ cond_or (bytes_eq (string_bytes k) q) (contains_text s q) ∙ ap (λ b. b || contains_text s q) (turned (string_bytes k) q) ∙ ap (λ z. bytes_eq q z || contains_text s q) is
